-- The test of a record in the order of its parts. Assumes nothing.
use mathlib.Core.Path.{◌≡◌}
use mathlib.Core.Bool.{true, false}
use Rattle.counting.specs.Every.{every, every_after}
use Rattle.instrument_fields.specs.Ranges.{common_in_range}
use Rattle.instrument.specs.declared.Instrument.{Instrument}
use Rattle.instrument.specs.Valid.{counted, keys_valid, strings_valid, valid}

module _ (i : Instrument) where
  pub invalid_common : common_in_range i.common ≡ false → false ≡ valid i
  unfolding valid every every_after
  invalid_common h1 = rw h1

  module _ (h1 : common_in_range i.common ≡ true) where
    pub invalid_counts : counted i ≡ false → false ≡ valid i
    unfolding valid every every_after
    invalid_counts h2 = rw (h1, h2)

    module _ (h2 : counted i ≡ true) where
      pub invalid_keys : keys_valid i ≡ false → false ≡ valid i
      unfolding valid every every_after
      invalid_keys h3 = rw (h1, h2, h3)

      pub valid_strings : keys_valid i ≡ true → strings_valid i ≡ valid i
      unfolding valid every every_after
      valid_strings h3 = rw (h1, h2, h3)
