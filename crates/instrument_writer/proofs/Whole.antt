-- The whole file and the call's promise. Assumes nothing.
use mathlib.Core.Path.{◌≡◌, refl, sym, ap, ◌∙◌}
use mathlib.Core.Bool.{Bool, true, false}
use mathlib.Core.List.{List, ◌++◌}
use Prim.Native.Nat.{ℕ, ◌+◌, ◌*◌, ◌≤◌, ◌<◌}
use native.Mathlib.Nat.{zero-add}
use native.Mathlib.Omega.{arith}
use lib.ListN.{length, take, drop}
use lib.Seq.{sets, sets-eq, take-append_seam}
use borrow.Author.Tests.{lt-ltb, le-ltb}
use Rattle.little_endian.specs.Stores.{stored_then}
use Rattle.counting.specs.Below.{gather}
use Rattle.counting.specs.Meets.{meets_refused, meets_accepted}
use Rattle.instrument.specs.declared.Instrument.{Instrument}
use Rattle.instrument.specs.Valid.{valid}
use Rattle.instrument_file.specs.File.{read_of}
use Rattle.instrument_encoding.specs.Encode.{section_bytes, encode}
use Rattle.instrument_encoding.proofs.Rewritten.{read_encode}
use Rattle.instrument_encoding.specs.Files.{GivenTest}
use Rattle.instrument_writer.specs.Pieces.{table_bytes, table_sections, counted_length, length_counted}
use Rattle.std.specs.Prelude.{Ok, Err}
use Rattle.refusal.specs.declared.Refusal.TheVariants.{Record, FileRoom}
use Rattle.instrument_writer.specs.Write.{write_refusal, wrote, WriteMeets}
use Rattle.instrument_writer.proofs.Loops.{table_length}

module _ (i : Instrument) where
  abbrev n : ℕ
  n = i.key_count

  -- the table, and the sections behind it
  pub file_stored : (l l₁ l₂ : List ℕ) → l₁ ≡ sets l 0 (table_bytes i)
      → l₂ ≡ sets l₁ (12 + 8 * n) (gather (n + 1) (section_bytes i)) → l₂ ≡ sets l 0 (encode i)
  file_stored l l₁ l₂ e g =
      let size = 12 + 8 * n in
      stored_then l l₁ l₂ (table_bytes i) (gather (n + 1) (section_bytes i)) 0 size size (table_length i) (sym (zero-add size)) e g ∙ ap (sets l 0) (table_sections i)

  -- a call that was told `given`
  module _ (bytes : List ℕ) (given : Bool) (test : GivenTest i given) where
    wrong_is : given ≡ false → 7 ≡ write_refusal i (length bytes)
    unfolding write_refusal
    wrong_is h = rw (sym test.answer ∙ h)

    pub call_wrong : given ≡ false → WriteMeets i bytes (Err Record) bytes
    call_wrong h = meets_refused 7 (wrong_is h) (λ z. omega arith) (refl, refl)

    -- that it is one, and counted the file's length
    module _ (is : given ≡ true) (len : ℕ) (count : len ≡ counted_length i.key_count i.string_count) where
      v : valid i ≡ true
      v = sym test.answer ∙ is

      size : len ≡ length (encode i)
      size = count ∙ length_counted i v

      short_is : length bytes < len → 20 ≡ write_refusal i (length bytes)
      unfolding write_refusal
      short_is h = rw (v, lt-ltb (length bytes) (length (encode i)) (omega (arith, size)))

      pub call_short : length bytes < len → WriteMeets i bytes (Err FileRoom) bytes
      call_short h = meets_refused 20 (short_is h) (λ z. omega arith) (refl, refl)

      room_is : len ≤ length bytes → 0 ≡ write_refusal i (length bytes)
      unfolding write_refusal
      room_is h = rw (v, le-ltb (length bytes) (length (encode i)) (omega (arith, size)))

      pub call_writes : len ≤ length bytes → (bytes' : List ℕ) → bytes' ≡ sets bytes 0 (encode i) → WriteMeets i bytes (Ok len) bytes'
      call_writes h bytes' e =
          let f = encode i in
          let by = test.every is in
          let same = read_encode by.file by.bytes i by.reads in
          let file : bytes' ≡ f ++ drop (length f) bytes =
          e ∙ sets-eq f bytes 0 (omega (arith, size)) ∙ ap (λ (k : ℕ). f ++ drop k bytes) (zero-add (length f)) in
          meets_accepted 0 (room_is h) refl
          (record {
            answer = ap wrote size;
            file = file;
            back =
                ap (λ (k : ℕ). read_of (take k bytes')) size
                ∙ ap (λ (x : List ℕ). read_of (take (length f) x)) file
                ∙ ap read_of (take-append_seam f (drop (length f) bytes) ∙ same)
                ∙ by.reads;
          })

-- what each way out of `write` has to say
pub ruleset refusals = (call_wrong, call_short, call_writes)
