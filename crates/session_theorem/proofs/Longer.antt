-- Document 02, W8: a list of calls from opening that got no 11 under the end that document 01 had gets the same answers and leaves the same
-- score, position and cues. The program under that end was the plain machine that ends there, by `demand_3` as it stood; the program now is
-- the plain machine with the end of Positions, by `demand_3`; the laws of two ends join them. Assumes nothing.
use Rattle.std.specs.Prelude.{◌≡◌, List, Float, Ok}
use Rattle.std.proofs.Common.{sym, ◌∙◌, arith}
use Rattle.instrument.specs.declared.Instrument.{Instrument}
use Rattle.positions.specs.Positions.{end}
use Rattle.machine.specs.Machine.{Call, Reply, opened, final_to, replies_to}
use Rattle.machine.specs.Longer.{NonePastEnd, longer_same}
use Rattle.session_record.specs.declared.Session.{Session}
use Rattle.session.specs.declared.Answer.TheVariants.{Opened}
use Rattle.session.specs.declared.Outcome.{Outcome}
use Rattle.session.specs.Calls.{OpenMeets}
use Rattle.session_theorem.specs.Runs.{Runs, Follows}
use Rattle.session_theorem.specs.Demand.{demand_3}
use Rattle.session_theorem.specs.Longer.{former_end}

-- where the plain machine that ended there refuses no call of the list as 11, the program's replies are that machine's, and its session and
-- memory after the list follow it
pub former_list : (i : Instrument) (work work' : List Float) (r : Outcome) → OpenMeets i work r work' → r.answer ≡ Ok Opened
    → {cs : List Call} {rs : List Reply} {s : Session} {work'' : List Float} → Runs i r.session work' cs rs s work''
    → NonePastEnd (replies_to former_end i opened cs) → (rs ≡ replies_to former_end i opened cs) × Follows i s work'' (final_to former_end i opened cs)
former_list i work work' r h e {cs} t none =
    let now = demand_3 i work work' r h e t in
    let same = longer_same former_end end (omega arith) i opened cs none in
    (now.answers ∙ sym same.0, rw same.1 now.after)
