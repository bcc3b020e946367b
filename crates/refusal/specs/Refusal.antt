-- Document 01, "Numbers a call may give", 1 to 19, and document 02's 20: the number of each refusal, the refusal of each number, and what a call answers by a number, where 0 is none.
use Rattle.std.specs.Prelude.{◌≡◌, refl, ℕ, zero, suc, ◌-◌, List, [], ◌∷◌, get_or, Result, Ok, Err}
use Rattle.std.proofs.Common.{arith}
use Rattle.refusal.specs.declared.Refusal.{Refusal}
use Rattle.refusal.specs.declared.Refusal.TheVariants.{SectionCount, Chain, SectionLength, Field, ManyStrings, KeyTwice, Record, Work, Scratch, Trace, PastEnd, ScoreFull, Velocity, NoEvent, CuesFull, Replay, SignalLength, Taps, OutputLength, FileRoom}

abbrev pub number_of : Refusal → ℕ
number_of SectionCount = 1
number_of Chain = 2
number_of SectionLength = 3
number_of Field = 4
number_of ManyStrings = 5
number_of KeyTwice = 6
number_of Record = 7
number_of Work = 8
number_of Scratch = 9
number_of Trace = 10
number_of PastEnd = 11
number_of ScoreFull = 12
number_of Velocity = 13
number_of NoEvent = 14
number_of CuesFull = 15
number_of Replay = 16
number_of SignalLength = 17
number_of Taps = 18
number_of OutputLength = 19
number_of FileRoom = 20

-- all of them in the order of their numbers, and the one of a number from 1 to 20
abbrev pub all : List Refusal
all =
    SectionCount ∷ Chain ∷ SectionLength ∷ Field ∷ ManyStrings ∷ KeyTwice ∷ Record ∷ Work ∷ Scratch ∷ Trace
    ∷ PastEnd ∷ ScoreFull ∷ Velocity ∷ NoEvent ∷ CuesFull ∷ Replay ∷ SignalLength ∷ Taps ∷ OutputLength ∷ FileRoom ∷ []

abbrev pub numbered : ℕ → Refusal
numbered n = get_or all (n - 1) FileRoom

-- the number in an answer, 0 where nothing is refused
abbrev pub number_in : {A : Type 0} → Result A Refusal → ℕ
number_in (Ok a) = 0
number_in (Err e) = number_of e

-- what is answered by a number: a where it is 0
abbrev pub answered : {A : Type 0} → ℕ → A → Result A Refusal
answered zero a = Ok a
answered (suc n) a = Err (numbered (suc n))

-- no two refusals have one number
pub numbered_number : (e : Refusal) → numbered (number_of e) ≡ e
numbered_number SectionCount = refl
numbered_number Chain = refl
numbered_number SectionLength = refl
numbered_number Field = refl
numbered_number ManyStrings = refl
numbered_number KeyTwice = refl
numbered_number Record = refl
numbered_number Work = refl
numbered_number Scratch = refl
numbered_number Trace = refl
numbered_number PastEnd = refl
numbered_number ScoreFull = refl
numbered_number Velocity = refl
numbered_number NoEvent = refl
numbered_number CuesFull = refl
numbered_number Replay = refl
numbered_number SignalLength = refl
numbered_number Taps = refl
numbered_number OutputLength = refl
numbered_number FileRoom = refl

-- none has 0
pub number_not_zero : (e : Refusal) → number_of e ≡ 0 → ⊥
number_not_zero SectionCount e = omega arith
number_not_zero Chain e = omega arith
number_not_zero SectionLength e = omega arith
number_not_zero Field e = omega arith
number_not_zero ManyStrings e = omega arith
number_not_zero KeyTwice e = omega arith
number_not_zero Record e = omega arith
number_not_zero Work e = omega arith
number_not_zero Scratch e = omega arith
number_not_zero Trace e = omega arith
number_not_zero PastEnd e = omega arith
number_not_zero ScoreFull e = omega arith
number_not_zero Velocity e = omega arith
number_not_zero NoEvent e = omega arith
number_not_zero CuesFull e = omega arith
number_not_zero Replay e = omega arith
number_not_zero SignalLength e = omega arith
number_not_zero Taps e = omega arith
number_not_zero OutputLength e = omega arith
number_not_zero FileRoom e = omega arith
