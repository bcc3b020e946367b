-- What an adjusting call from C or Rust promises: refusals 1 to 6 of the file it is handed; 7 where its keys and weights are no whole
-- pairs for that file; else what the writer promises of the file's record with those weights, answered in numbers. Definitions only:
-- assumes nothing.
use Rattle.std.specs.Prelude.{◌≡◌, List, [], ◌++◌, ℕ, ◌≤◌, Float, length, drop, Result, Ok, Err}
use Rattle.counting.specs.Meets.{Meets}
use Rattle.refusal.specs.declared.Refusal.{Refusal}
use Rattle.refusal.specs.Refusal.{number_of, number_in}
use Rattle.instrument.specs.declared.Instrument.{Instrument}
use Rattle.instrument_file.specs.File.{read_of, instrument_in}
use Rattle.instrument_writer.specs.Write.{wrote, WriteMeets}
use Rattle.weights.specs.Weights.{weighted_by, whole_pairs}
use Rattle.crossing.specs.declared.Report.{Report}
use Rattle.crossing.specs.Crossing.{refused_by, accepted_with, refused_at}

-- the number that refuses the file f or the pairs, 0 for none
abbrev pub adjust_number : List ℕ → List ℕ → List Float → ℕ
adjust_number f keys weights = refused_at f (whole_pairs (instrument_in (read_of f)) keys weights)

-- what is answered before it is a report: out is the lent bytes before and out' after
abbrev pub Adjusts : List ℕ → List ℕ → List Float → List ℕ → Result ℕ Refusal → List ℕ → Type 0
Adjusts f keys weights out r out' =
    Meets (adjust_number f keys weights) (λ n. (number_in r ≡ n) × (out' ≡ out))
    (WriteMeets (weighted_by (instrument_in (read_of f)) keys weights) out r out')

-- the writer's answer: its number, 0 for none, and the file's length
abbrev pub written_as : Result ℕ Refusal → Report
written_as (Ok n) = accepted_with n 0 0
written_as (Err e) = refused_by (number_of e)

pub record Saved (i : Instrument) (out : List ℕ) (r : Report) (out' : List ℕ) : Type 0 where
  pub answer : Result ℕ Refusal
  pub meets : WriteMeets i out answer out'
  pub report : r ≡ written_as answer

-- f is the file, out the lent bytes before and out' after
abbrev pub AdjustMeets : List ℕ → List ℕ → List Float → List ℕ → Report → List ℕ → Type 0
AdjustMeets f keys weights out r out' =
    Meets (adjust_number f keys weights) (λ n. (r ≡ refused_by n) × (out' ≡ out))
    (Saved (weighted_by (instrument_in (read_of f)) keys weights) out r out')

-- "for each accepted file, reading and writing gives the same bytes": this call reads and writes, so with no pair and as many bytes lent
-- it gives the file itself
abbrev pub GivesBack : List ℕ → List ℕ → List Float → List ℕ → Report → List ℕ → Type 0
GivesBack f keys weights out r out' =
    number_in (read_of f) ≡ 0 → keys ≡ [] → weights ≡ [] → length f ≤ length out
    → (r ≡ written_as (wrote (length f))) × (out' ≡ f ++ drop (length f) out)
