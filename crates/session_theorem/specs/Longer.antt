-- Document 02, W8, of the end that document 01 had and of the program as it is: a session record that passed 7 passes. Of a list of calls
-- proofs/Longer.antt says the same. Assumes nothing.
use Rattle.std.specs.Prelude.{◌≡◌, true, ℕ}
use Rattle.std.proofs.Common.{arith}
use Rattle.instrument.specs.declared.Instrument.{Instrument}
use Rattle.instrument.specs.Valid.{valid}
use Rattle.positions.specs.Positions.{end}
use Rattle.positions.specs.Laws.{and_both}
use Rattle.session_record.specs.declared.Session.{Session}
use Rattle.session_record.specs.Record.{sound_session_to, sound_records}
use Rattle.session_record.specs.Longer.{session_longer}

-- refusal 11 of document 01: "t + m, p or q exceeds 2,000,000,000"
abbrev pub former_end : ℕ
former_end = 2000000000

-- what 7 let through under that end it lets through now
pub former_record : (i : Instrument) (s : Session) → valid i ≡ true → sound_session_to former_end i.key_count s ≡ true → sound_records i s ≡ true
former_record i s v h = and_both _ _ v (session_longer former_end end (omega arith) i.key_count s h)
