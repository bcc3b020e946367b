-- What energies asked from C or Rust promise: `key_energies` on the session that the words are, as numbers in flat arrays. Nothing is
-- lent to be written. Definitions only: assumes nothing.
use Rattle.std.specs.Prelude.{◌≡◌, List, map, ℕ, replicate, Float, Result, Ok, Err}
use Rattle.instrument_file.specs.File.{read_of, instrument_in}
use Rattle.energies.specs.declared.KeyEnergy.{KeyEnergy}
use Rattle.energies.specs.declared.Energies.{Energies}
use Rattle.refusal.specs.declared.Refusal.{Refusal}
use Rattle.refusal.specs.Refusal.{number_of as refusal_number, number_in}
use Rattle.energies.specs.Energy.{no_energy, EnergiesMeet}
use Rattle.session_words.specs.Session.{session_of, is_session}
use Rattle.gingerfile.specs.declared.KeyEnergies.{KeyEnergies}
use Rattle.crossing.specs.Crossing.{refused_at}

abbrev pub energy_of : KeyEnergy → Float
energy_of k = k.energy

abbrev pub number_of : KeyEnergy → ℕ
number_of k = k.key

-- "A refusal returns its number alone": with zeros
abbrev pub no_energies : ℕ → KeyEnergies
no_energies n = record { refusal = n; count = 0; energies = replicate 16 no_energy.energy; keys = replicate 16 0 }

unfoldable pub flat_of : ℕ → ℕ → List KeyEnergy → KeyEnergies
flat_of number count pairs = record { refusal = number; count = count; energies = map energy_of pairs; keys = map number_of pairs }

-- what is answered before it is in flat arrays
pub record Asks (f w : List ℕ) (work : List Float) (r : Result Energies Refusal) : Type 0 where
  pub refuses : (refused_at f (is_session w) ≡ 0 → ⊥) → number_in r ≡ refused_at f (is_session w)
  pub asks : refused_at f (is_session w) ≡ 0 → EnergiesMeet (instrument_in (read_of f)) (session_of w) work r

abbrev pub flat_in : Result Energies Refusal → KeyEnergies
flat_in (Ok found) = flat_of 0 found.count found.keys
flat_in (Err e) = no_energies (refusal_number e)

pub record Asked (Promise : Result Energies Refusal → Type 0) (r : KeyEnergies) : Type 0 where
  pub answer : Result Energies Refusal
  pub meets : Promise answer
  pub flat : r ≡ flat_in answer

pub record EnergiesCross (f w : List ℕ) (work : List Float) (r : KeyEnergies) : Type 0 where
  pub refuses : (refused_at f (is_session w) ≡ 0 → ⊥) → r ≡ no_energies (refused_at f (is_session w))
  pub asks : refused_at f (is_session w) ≡ 0 → Asked (EnergiesMeet (instrument_in (read_of f)) (session_of w) work) r
