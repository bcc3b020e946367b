pub mod Valid
pub mod KeyIndex
pub mod ValidLaws
pub mod Work
pub mod WorkLaws
