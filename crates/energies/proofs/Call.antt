-- What the calls leave to show: that a valid instrument's tables may be walked, and that the answer is what `key_energies` promises. Assumes nothing.
use mathlib.Core.Path.{◌≡◌, sym, ap, ◌∙◌}
use mathlib.Core.Bool.{true}
use mathlib.Core.List.{List}
use Prim.Native.Nat.{ℕ, ◌≤◌, ◌<◌}
use native.Mathlib.Omega.{arith}
use lib.ListN.{length, take, get_or, replicate}
use lib.Seq.{length-take-le}
use lib.Ieee.{Float, nan}
use Rattle.float.specs.Float.{zero as +0}
use Rattle.std.specs.Prelude.{Ok, Err}
use Rattle.refusal.specs.declared.Refusal.{Refusal}
use Rattle.refusal.specs.Refusal.{number_of, numbered, numbered_number, number_not_zero}
use Rattle.counting.specs.Below.{pad, tabulate}
use Rattle.counting.specs.Laws.{tabulate_cong}
use Rattle.instrument.specs.declared.Instrument.{Instrument}
use Rattle.instrument.specs.Valid.{valid, key_at}
use Rattle.instrument.specs.ValidLaws.{valid_counts}
use Rattle.instrument.specs.Work.{part_cells}
use Rattle.string.specs.declared.StringDesign.{StringDesign}
use Rattle.strings.specs.Strings.{AllFit, cells_of}
use Rattle.sample_constants.specs.Model.{strings_of}
use Rattle.sample_constants.specs.Laws.{strings_fit}
use Rattle.render.specs.Work.{cells_are}
use Rattle.session_record.specs.declared.Session.{Session}
use Rattle.session_record.specs.Record.{record_refusal}
use Rattle.session_record.specs.Laws.{Passed, passed}
use Rattle.energies.specs.declared.KeyEnergy.{KeyEnergy}
use Rattle.energies.specs.declared.Energies.{Energies}
use Rattle.energies.specs.Energy.{no_energy, key_energy, energies_of, EnergiesMeet}
use Rattle.energies.specs.Steps.{sums_after, pair_of}
use Rattle.energies.proofs.Sums.{key_sum}

pub few : (i : Instrument) → valid i ≡ true → (i.key_count ≤ 16) × (i.string_count ≤ 32)
few i h = let c = valid_counts i h in (c.few_keys, c.few_strings)

module _ (i : Instrument) (h : valid i ≡ true) (cells : List Float) {designs : List StringDesign} (e : designs ≡ strings_of i) where
  pub walkable : part_cells i ≤ length cells → AllFit designs × (cells_of designs ≤ length cells)
  walkable room =
      let c = few i h in
      rw e (strings_fit i c.0 c.1, omega (arith, cells_are i h, room))

  pub energies_are : (sums : List Float) (pairs : List KeyEnergy) → sums ≡ sums_after designs cells (replicate 16 +0)
      → pairs ≡ pad 16 no_energy (tabulate i.key_count (pair_of i sums)) → record { keys = pairs; count = i.key_count } ≡ energies_of i cells
  unfolding energies_of
  energies_are sums pairs es ep =
      let d = es ∙ ap (λ (ds : List StringDesign). sums_after ds cells (replicate 16 +0)) e in
      let pair : ℕ → KeyEnergy = λ k. record { key = (key_at i.keys k).key; energy = key_energy i cells k } in
      let each : (k : ℕ) → k < i.key_count → pair_of i sums k ≡ pair k =
      λ k q. ap (λ (e : Float). record { key = (key_at i.keys k).key; energy = e })
      (ap (λ (l : List Float). get_or l k nan) d ∙ key_sum k (strings_of i) cells (omega (arith, (few i h).0))) in
      ap (λ (l : List KeyEnergy). record { keys = l; count = i.key_count }) (ep ∙ ap (pad 16 no_energy) (tabulate_cong i.key_count (pair_of i sums) pair each))

module _ (i : Instrument) (s : Session) (work : List Float) where
  pub energies_refused : (e : Refusal) → number_of e ≡ record_refusal i s (length work) → EnergiesMeet i s work (Err e)
  energies_refused e n = record {
    refuses = λ x. ap Err (sym (numbered_number e) ∙ ap numbered n);
    accepts = λ z. absurd (number_not_zero e (n ∙ z));
  }

  module _ (z : 0 ≡ record_refusal i s (length work)) where
    pub fine : Passed i s (length work)
    fine = passed i s (length work) (sym z)

    module _ (w : ℕ) (ew : w ≡ part_cells i) where
      -- the first part is there
      pub part_there : length (take w work) ≡ w
      part_there = length-take-le w work (omega (arith, fine.room))

      pub energies_found : (r : Energies) → r ≡ energies_of i (take w work) → EnergiesMeet i s work (Ok r)
      energies_found r er = record {
        refuses = λ x. absurd (x (sym z));
        accepts = λ x. ap Ok (er ∙ ap (λ (k : ℕ). energies_of i (take k work)) ew);
      }
