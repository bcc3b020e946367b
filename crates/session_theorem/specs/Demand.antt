-- DEMAND 3, "The piano behind a cue": for every list of play, cue, go, insert and remove calls, refused ones included, from a session just
-- opened. The statement is `demand_3`, at the end; its words are in Runs.antt. Assumes nothing.
use Rattle.std.specs.Prelude.{◌≡◌, refl, false, List, [], ℕ, zero, suc, ◌<◌, Float, length, take, get_or, Ok}
use Rattle.std.proofs.Common.{sym, ◌∙◌, ap, arith}
use Rattle.instrument.specs.declared.Instrument.{Instrument}
use Rattle.instrument.specs.Work.{part_cells}
use Rattle.instrument.specs.ValidLaws.{valid_counts}
use Rattle.score.specs.declared.Piano.{Piano}
use Rattle.score.specs.Contacts.{contacts_of}
use Rattle.render.specs.Render.{silent_piano, silence}
use Rattle.render.specs.Laws.{render_sum}
use Rattle.positions.specs.Positions.{count}
use Rattle.positions.specs.Laws.{true_or_false}
use Rattle.machine.specs.Machine.{Machine, Call, Reply, opened, does, final, final_to, replies, replies_to}
use Rattle.score_edits.specs.Laws.{sound_walk, sound_ranks}
use Rattle.machine.specs.Laws.{sound_opened, sound_final, allowed_does, go_replays, replies_at, replies_length}
use Rattle.session_cues.specs.Cues.{kept_of}
use Rattle.session_record.specs.declared.Session.{Session}
use Rattle.session_record.specs.Record.{open_refusal}
use Rattle.session_record.specs.Laws.{open_passed}
use Rattle.session.specs.declared.Answer.TheVariants.{Opened}
use Rattle.session.specs.declared.Outcome.{Outcome}
use Rattle.session.specs.Calls.{empty_cue, cue_at, fresh_session, OpenMeets}
use Rattle.session.specs.Laws.{render_zero, silent_length, silent_piano_lem}
use Rattle.session_theorem.specs.Runs.{Runs, Counts, standing, Claim}
use Rattle.session_theorem.specs.Memory.{front_now, front_length}
use Rattle.session_theorem.specs.Stands.{Stands}
use Rattle.session_theorem.specs.Steps.{call_step}

-- ---- a session just opened

fresh_keeps : (p : Piano) → kept_of (fresh_session p).cues ≡ []
unfolding kept_of
fresh_keeps p = refl

fresh_empty : (p : Piano) (j : ℕ) → j < 4 → (get_or (fresh_session p).cues j (empty_cue p)).kept ≡ false
fresh_empty p zero h = refl
fresh_empty p (suc zero) h = refl
fresh_empty p (suc (suc zero)) h = refl
fresh_empty p (suc (suc (suc zero))) h = refl
fresh_empty p (suc (suc (suc (suc j)))) h = absurd (omega arith)

-- only an open that is not refused answers so
not_refused : (i : Instrument) (work work' : List Float) (r : Outcome) → OpenMeets i work r work' → r.answer ≡ Ok Opened → (n : ℕ)
    → open_refusal i (length work) ≡ n → n ≡ 0
not_refused i work work' r h e zero k = refl
not_refused i work work' r h e (suc n) k =
    let x = ap (λ q. q.answer) (h.refuses (λ z. omega arith)).0 in
    absurd (let z : ⊥ = cc (sym e ∙ x) in z)

opened_stands : (i : Instrument) (work work' : List Float) (r : Outcome) → OpenMeets i work r work' → r.answer ≡ Ok Opened → Stands i r.session work' opened
unfolding count
opened_stands i work work' r h e =
    let z : open_refusal i (length work) ≡ 0 = not_refused i work work' r h e (open_refusal i (length work)) refl in
    let fine = open_passed i (length work) z in
    let a = h.accepts z in
    let here : r.session ≡ fresh_session silent_piano = ap (λ q. q.session) a.0 in
    record {
      follows = record {
        score = rw here refl;
        position = rw here refl;
        cues = λ f. rw here (ap (count f) (fresh_keeps silent_piano));
        now = rw (here, front_now (part_cells i) (silence i).cells _ work' a.1 (silent_length i fine.0))
            (ap (λ q. record { piano = q; cells = (silence i).cells }) (silent_piano_lem i) ∙ sym (render_zero i []));
        held = λ j l k. true_or_false _ (rw here at k) (fresh_empty silent_piano j l);
      };
      machine = sound_opened;
      instrument = fine.0;
      few = rw here (omega arith);
      long = rw here refl;
      four = rw here refl;
      room = omega (arith, front_length (part_cells i) (silence i).cells work work' a.1 (silent_length i fine.0) fine.1, fine.1);
    }

-- ---- the counts

-- a session that follows the machine has, over its keys, the machine's count
stands_counts : (i : Instrument) (s : Session) (work : List Float) (p : Machine) → Stands i s work p → Counts i s p
stands_counts i s work p g =
    let f = g.follows in
    let few = (valid_counts i g.instrument).few_keys in
    record {
      now = ap (λ st. contacts_of i.key_count st.piano) f.now ∙ render_sum i p.score few p.t;
      held = λ j l k. ap (λ st. contacts_of i.key_count st.piano) (f.held j l k) ∙ render_sum i p.score few (cue_at s j).position;
    }

-- ---- the theorem

-- For every instrument and work memory with which open is accepted, and for every list of calls run from there, each by its function's
-- contract: the replies are the plain machine's, the program's session and memory are the plain machine's, the keys' contact counts add up
-- to the Rust's one count, every refusal is from 9 to 16, each accepted go replays no more than it must, and the events that act on a
-- sample are those of document 01's rule, in the order of document 02's W1.
pub demand_3 : (i : Instrument) (work work' : List Float) (r : Outcome) → OpenMeets i work r work' → r.answer ≡ Ok Opened
    → {cs : List Call} {rs : List Reply} {s : Session} {work'' : List Float} → Runs i r.session work' cs rs s work'' → Claim i cs rs s work''
unfolding replies_to final_to
demand_3 i work work' r h e {cs} {rs} t =
    let u = follows t opened (opened_stands i work work' r h e) in
    let reply : (k : ℕ) → k < length cs → get_or rs k Reply.cued ≡ (does i (standing i cs k) (get_or cs k Call.cue)).1 =
    λ k l. ap (λ x. get_or x k Reply.cued) u.0 ∙ replies_at i opened cs k l in
    record {
      answers = u.0;
      after = u.1.follows;
      counts = stands_counts i _ _ _ u.1;
      allowed = λ k l. rw (reply k (omega (arith, l, ap length u.0, replies_length i opened cs))) (allowed_does i (standing i cs k) (get_or cs k Call.cue));
      replayed = λ k scratch p n l c f. go_replays i (standing i cs k) scratch p n (ap (λ x. (does i (standing i cs k) x).1) (sym c) ∙ sym (reply k l) ∙ f);
      walked = λ k t. sound_walk (standing i cs k).score t (sound_final i opened (take k cs) sound_opened).score;
      ranked = λ k t. sound_ranks (standing i cs k).score t (sound_final i opened (take k cs) sound_opened).score;
    }
  where
    -- the list as a whole: its calls, one after the other, answer and leave what the machine's do
    follows : {s s'' : Session} {left left'' : List Float} {calls : List Call} {answers : List Reply} → Runs i s left calls answers s'' left''
        → (p : Machine) → Stands i s left p
        → (answers ≡ replies i p calls) × Stands i s'' left'' (final i p calls)
    follows Runs.done p g = (refl, g)
    follows (Runs.next {s = s} {work = left} c out trace r left' out' trace' h rest) p g =
        let t = call_step i s left p g c out trace r left' out' trace' h in
        let u = follows rest _ t.0 in
        (cc (t.1, u.0), u.1)
