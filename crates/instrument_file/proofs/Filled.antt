-- The loops that fill the record's arrays: what stands in them at each turn. Assumes nothing.
use mathlib.Core.Path.{◌≡◌, refl, sym, ap, ◌∙◌}
use mathlib.Core.List.{List, ◌++◌}
use Prim.Native.Nat.{ℕ, ◌+◌, ◌≤◌, ◌<◌}
use native.Mathlib.Omega.{arith}
use lib.ListN.{length, replicate, set, take, drop, length-set}
use native.Mathlib.Numerals.{add-one}
use lib.Seq.{take-suc-set, take_all}
use Rattle.std.proofs.lemmas.List.{drop-replicate, drop-drop}
use Rattle.std.proofs.Common.{append_assoc}
use lib.Seq.{sets, sets-eq}
use borrow.Rule.Slice.PartMut.{put_mid}
use Rattle.little_endian.specs.Numbers.{byte_at}
use Rattle.instrument_fields.specs.declared.KeyDesign.{KeyDesign}
use Rattle.instrument_fields.specs.declared.LoopDesign.{LoopDesign}
use Rattle.instrument_fields.specs.Unused.{no_key, no_string}
use Rattle.counting.specs.Below.{tabulate, gather, pad}
use Rattle.counting.specs.Laws.{tabulate_more, length_tabulate, gather_more, pad_sets}
use Rattle.instrument.specs.Valid.{key_at, string_sum}
use Rattle.instrument.specs.ValidLaws.{string_sum_none, string_sum_more, string_sum_within}
use Rattle.instrument_file.specs.File.{key_section, loop_in, keys_in, strings_in}
use Rattle.instrument_file.specs.FileLaws.{run_in, length_run, strings_length, count_in_lem, sum_in}

-- ---- a loop that stores g i at each place i

pub record Stored {A : Type 0} (g : ℕ → A) (out₀ out : List A) (i : ℕ) : Type 0 where
  pub within : i ≤ length out₀
  pub same : length out ≡ length out₀
  pub done : take i out ≡ tabulate i g

module _ {A : Type 0} {g : ℕ → A} {out₀ : List A} where
  pub stored_start : Stored g out₀ out₀ 0
  unfolding tabulate
  stored_start = record { within = omega arith; same = refl; done = refl }

  module _ {out : List A} {i : ℕ} (s : Stored g out₀ out i) where
    pub stored_turn : {v : A} → i < length out₀ → v ≡ g i → Stored g out₀ (set out i v) (i + 1)
    stored_turn {v} h e = record {
      within = omega arith;
      same = length-set out i v ∙ s.same;
      done =
          ap (λ (n : ℕ). take n (set out i v)) (add-one i) ∙ take-suc-set out i v (omega (arith, s.same))
          ∙ rw (s.done, e) (sym (tabulate_more i g));
    }

    pub stored_end : length out₀ ≤ i → out ≡ tabulate (length out₀) g
    stored_end h =
        let e : i ≡ length out₀ = omega (arith, s.within) in
        sym (take_all i out (omega (arith, s.same))) ∙ s.done ∙ ap (λ (n : ℕ). tabulate n g) e

-- places filled from the front, and zeros behind them
pub front_filled : {A : Type 0} (g : ℕ → A) (z y : A) (N n m : ℕ) (xs : List A)
    → xs ≡ tabulate m g → m ≡ n → y ≡ z → xs ++ drop n (replicate N y) ≡ pad N z (tabulate n g)
unfolding pad
front_filled g z y N n m xs filled e same =
    rw (filled, e, same, length_tabulate n g) (ap (λ (l : List _). tabulate n g ++ l) (drop-replicate n N z))

-- ---- the strings of the first i of n keys are in place, m of them, and zeros after them

pub record StringsFilled (f : List ℕ) (n : ℕ) (keys : List KeyDesign) (out : List LoopDesign) (m i : ℕ) : Type 0 where
  pub keys_are : keys ≡ pad 16 no_key (keys_in f n)
  pub few : string_sum keys n ≤ 32
  pub below : i ≤ n
  pub count : m ≡ string_sum keys i
  pub strings : out ≡ pad 32 no_string (strings_in f i)

module _ {f : List ℕ} {n : ℕ} {keys : List KeyDesign} where
  pub strings_none : {s : LoopDesign} → keys ≡ pad 16 no_key (keys_in f n) → string_sum keys n ≤ 32 → s ≡ no_string
      → StringsFilled f n keys (replicate 32 s) 0 0
  unfolding strings_in gather pad
  strings_none is few e = record { keys_are = is; few = few; below = omega arith; count = sym (string_sum_none keys); strings = ap (replicate 32) e }

  module _ {out : List LoopDesign} {m i : ℕ} (s : StringsFilled f n keys out m i) where
    -- key i's strings have room
    pub strings_room : i < n → m + (key_at keys i).strings ≤ 32
    strings_room h = let w = string_sum_within keys n i h in let few = s.few in let e = s.count in omega arith

    pub strings_next : {b : List ℕ} {r : List LoopDesign} → i < n → b ≡ key_section f i
        → r ≡ sets out m (tabulate (key_at keys i).strings (loop_in b))
        → StringsFilled f n keys r (m + (key_at keys i).strings) (i + 1)
    unfolding strings_in
    strings_next h eb er =
        let runs : (key_at keys i).strings ≡ byte_at (key_section f i) 2 =
        ap (λ (l : List KeyDesign). (key_at l i).strings) s.keys_are ∙ count_in_lem f n i h in
        let total : m ≡ length (gather i (run_in f)) =
        s.count ∙ ap (λ (l : List KeyDesign). string_sum l i) s.keys_are ∙ sum_in f n i (omega arith) ∙ sym (strings_length f i) in
        let room = strings_room h in
        let run = length_run f i in
        let placed = pad_sets 32 no_string (gather i (run_in f)) (run_in f i) (omega arith) in
        record {
          keys_are = s.keys_are;
          few = s.few;
          below = omega arith;
          count = let more = string_sum_more keys i in let e = s.count in omega arith;
          strings = er ∙ rw (s.strings, eb, runs, total) (placed ∙ ap (pad 32 no_string) (sym (gather_more i (run_in f))));
        }

    -- the same, as the call on those places leaves them
    pub strings_turn : {b : List ℕ} {new : List LoopDesign} {c k q : ℕ} → i < n → length out ≡ 32
        → c ≡ (key_at keys i).strings → k ≡ c → q ≡ c
        → b ≡ key_section f i → new ≡ tabulate q (loop_in b) → StringsFilled f n keys (put_mid m k out new) (m + c) (i + 1)
    strings_turn {b} {new} {c} {k} {q} h size ec ek eq eb en =
        let room = strings_room h in
        let filled : new ≡ tabulate (key_at keys i).strings (loop_in b) = en ∙ ap (λ (x : ℕ). tabulate x (loop_in b)) (eq ∙ ec) in
        let long : length new ≡ c = ap (λ (l : List LoopDesign). length l) en ∙ length_tabulate q (loop_in b) ∙ eq in
        let put : put_mid m k out new ≡ sets out m new =
        rw (ek, ← long) (ap (λ (l : List LoopDesign). take m out ++ (new ++ l)) (drop-drop (length new) m out)
        ∙ sym (append_assoc (take m out) new (drop (m + length new) out))
        ∙ sym (sets-eq new out m (omega (arith, long, ec, room, size)))) in
        rw ec (strings_next h eb (put ∙ ap (sets out m) filled))

    pub strings_all : n ≤ i → out ≡ pad 32 no_string (strings_in f n)
    strings_all h = let b = s.below in let e : i ≡ n = omega arith in rw e at s.strings
