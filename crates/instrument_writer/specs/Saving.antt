-- W4's two sentences, about the calls: the reader, `instrument_file::read`, and the writer by their contracts. Assumes nothing.
use Rattle.std.specs.Prelude.{◌≡◌, refl, true, List, ◌++◌, ℕ, zero, suc, ◌≤◌, length, take, drop, Result}
use Rattle.std.proofs.Common.{sym, ap, ◌∙◌, subst, arith}
use borrow.Author.Tests.{le-ltb}
use Rattle.little_endian.specs.Bytes.{Bytes}
use Rattle.instrument.specs.declared.Instrument.{Instrument}
use Rattle.instrument.specs.Valid.{valid}
use Rattle.refusal.specs.declared.Refusal.{Refusal}
use Rattle.refusal.specs.Refusal.{numbered, number_in, number_not_zero}
use Rattle.instrument_file.specs.File.{accepted, instrument_in, read_of}
use Rattle.instrument_file.specs.FileLaws.{accepted_in}
use Rattle.instrument_encoding.specs.Encode.{encode}
use Rattle.instrument_encoding.specs.Accepted.{accepted_valid}
use Rattle.instrument_encoding.proofs.Rewritten.{read_encode}
use Rattle.instrument_writer.specs.Write.{write_refusal, wrote, length_in, WriteMeets}

module _ (bytes bytes' : List ℕ) (w : Result ℕ Refusal) (a : Result Instrument Refusal) where
  -- an answer of 0 is that of an accepted call
  none_refused : (i : Instrument) → WriteMeets i bytes w bytes' → number_in w ≡ 0 → write_refusal i (length bytes) ≡ 0
  none_refused i write z = by_number (write_refusal i (length bytes)) refl
    where
      by_number : (n : ℕ) → write_refusal i (length bytes) ≡ n → write_refusal i (length bytes) ≡ 0
      by_number zero e = e
      by_number (suc n) e = absurd (number_not_zero (numbered (write_refusal i (length bytes))) (sym (ap number_in (write.refuses (λ o. omega arith)).0) ∙ z))

  -- THE LAW: "Reading what it wrote gives the same record"
  pub written_read : (i : Instrument) → WriteMeets i bytes w bytes' → number_in w ≡ 0 → a ≡ read_of (take (length_in w) bytes') → a ≡ accepted i
  written_read i write z read = read ∙ (write.accepts (none_refused i write z)).back

  room_for : (i : Instrument) → valid i ≡ true → length (encode i) ≤ length bytes → write_refusal i (length bytes) ≡ 0
  unfolding write_refusal
  room_for i v h = rw (v, le-ltb (length bytes) (length (encode i)) h)

  -- THE LAW: "for each accepted file, reading and writing gives the same bytes", where as many are lent. f is of bytes, as every slice of them is
  pub read_written : (f : List ℕ) → Bytes f → a ≡ read_of f → number_in a ≡ 0 → WriteMeets (instrument_in a) bytes w bytes' → length f ≤ length bytes
      → (w ≡ wrote (length f)) × (bytes' ≡ f ++ drop (length f) bytes)
  read_written f ok read z write room =
      let i = instrument_in a in
      let is : read_of f ≡ accepted i = sym read ∙ accepted_in a z in
      let same = read_encode f ok i is in
      let met = write.accepts (room_for i (accepted_valid f i is) (subst (λ (x : List ℕ). length x ≤ length bytes) (sym same) room)) in
      (met.answer ∙ ap (λ (x : List ℕ). wrote (length x)) same, met.file ∙ ap (λ (x : List ℕ). x ++ drop (length x) bytes) same)
