-- Each part of the test behind those before it, in their order (proofs/Order.antt): what one part requires, an earlier one has tested, and stands at the place behind that test.
use mathlib.Core.Path.{◌≡◌, sym, ◌∙◌}
use mathlib.Core.Bool.{true}
use Rattle.instrument_fields.specs.Ranges.{common_in_range}
use Rattle.instrument.specs.Valid.{counted, keys_valid}
use Rattle.instrument.specs.ValidLaws.{counts, valid_keys}
use Rattle.instrument.proofs.Order.{invalid_common, invalid_counts, invalid_keys, valid_strings}
use Rattle.instrument.proofs.is_valid.Goals as goal

pub returns-then-not-common_in_range : goal.returns-then-not-common_in_range
returns-then-not-common_in_range c = invalid_common c.args.i (sym c.common_in_range.ensures ∙ c.if-not-common_in_range.true)

pub returns-then-not-is_counted : goal.returns-then-not-is_counted
returns-then-not-is_counted c =
    let i = c.args.i in
    let common-at : common_in_range i.common ≡ true = sym c.common_in_range.ensures ∙ c.if-not-common_in_range.false in
    invalid_counts i common-at (sym c.is_counted.ensures ∙ c.if-not-is_counted.true)

pub keys_valid-requires : goal.keys_valid-requires
keys_valid-requires c =
    let i = c.args.i in
    let counted-at : counted i ≡ true = sym c.is_counted.ensures ∙ c.if-not-is_counted.false in
    (counts i counted-at).few_keys

pub returns-then-not-keys_valid : goal.returns-then-not-keys_valid
returns-then-not-keys_valid c =
    let i = c.args.i in
    let common-at : common_in_range i.common ≡ true = sym c.common_in_range.ensures ∙ c.if-not-common_in_range.false in
    let counted-at : counted i ≡ true = sym c.is_counted.ensures ∙ c.if-not-is_counted.false in
    invalid_keys i common-at counted-at (sym c.keys_valid.ensures ∙ c.if-not-keys_valid.true)

pub strings_valid-requires : goal.strings_valid-requires
strings_valid-requires c =
    let i = c.args.i in
    let counted-at : counted i ≡ true = sym c.is_counted.ensures ∙ c.if-not-is_counted.false in
    let keys-at : keys_valid i ≡ true = sym c.keys_valid.ensures ∙ c.if-not-keys_valid.false in
    let n = counts i counted-at in
    (n.few_keys, n.few_strings, valid_keys i keys-at)

pub returns : goal.returns
returns c =
    let i = c.args.i in
    let common-at : common_in_range i.common ≡ true = sym c.common_in_range.ensures ∙ c.if-not-common_in_range.false in
    let counted-at : counted i ≡ true = sym c.is_counted.ensures ∙ c.if-not-is_counted.false in
    let keys-at : keys_valid i ≡ true = sym c.keys_valid.ensures ∙ c.if-not-keys_valid.false in
    c.strings_valid.ensures ∙ valid_strings i common-at counted-at keys-at
