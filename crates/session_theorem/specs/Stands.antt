-- What stands between two calls: the program follows the machine, which is sound; so 7 and 8 do not come, and every held state is the
-- render's. Assumes nothing.
use Rattle.std.specs.Prelude.{◌≡◌, true, ◌⊎◌, List, ◌∷◌, ℕ, ◌*◌, ◌<◌, ◌≤◌, Float, length}
use Rattle.std.proofs.Common.{sym, ◌∙◌, ap, ⊎_elim, arith, eqb-true}
use Rattle.std.proofs.lemmas.Bool.{eqb-false}
use Rattle.instrument.specs.declared.Instrument.{Instrument}
use Rattle.instrument.specs.Valid.{valid}
use Rattle.instrument.specs.Work.{part_cells}
use Rattle.render.specs.Render.{render_state}
use Rattle.positions.specs.Positions.{end, is_in}
use Rattle.positions.specs.Laws.{true_or_false, in_cases, in_same, distinct_same}
use Rattle.session_cues.specs.Cues.{slot_at, sound_piano}
use Rattle.session_cues.specs.Laws.{slot_kept, kept_in, cues_pass}
use Rattle.machine.specs.Machine.{Machine}
use Rattle.machine.specs.Laws.{SoundMachine}
use Rattle.session_record.specs.declared.Session.{Session}
use Rattle.session_record.specs.Record.{record_refusal}
use Rattle.session_record.specs.Laws.{passes}
use Rattle.session.specs.Calls.{kept_by, empty_cue, cue_at, state_now, state_cue, held_at}
use Rattle.session.specs.Laws.{rendered_sound, render_zero, held_cases, slot_there}
use Rattle.session_theorem.specs.Runs.{Follows}
use Rattle.session_theorem.specs.Arrays.{score_size}

pub record Stands (i : Instrument) (s : Session) (work : List Float) (p : Machine) : Type 0 where
  pub follows : Follows i s work p
  pub machine : SoundMachine p
  pub instrument : valid i ≡ true
  pub few : s.count ≤ 64
  pub long : length s.events ≡ 64
  pub four : length s.cues ≡ 4
  pub room : 5 * part_cells i ≤ length work

module _ (i : Instrument) (s : Session) (work : List Float) (p : Machine) (g : Stands i s work p) where
  f : Follows i s work p
  f = g.follows

  -- 7 and 8 do not come
  pub standing_passes : record_refusal i s (length work) ≡ 0
  standing_passes =
      passes i s (length work)
      (record {
        sound = g.instrument;
        few = g.few;
        inside = omega (arith, f.position, g.machine.inside);
        score = rw f.score g.machine.score;
        now = rendered_sound i p.score s.t (state_now i s work) (f.now ∙ ap (render_state i p.score) (sym f.position));
        kept = cues_pass i.key_count s.cues (empty_cue s.piano) (distinct_same (kept_by s) p.cues f.cues g.machine.apart) cue_fine;
        room = g.room;
      })
    where
      cue_fine : (j : ℕ) → j < length s.cues → (cue_at s j).kept ≡ true
          → ((cue_at s j).position ≤ end) × (sound_piano i.key_count (cue_at s j).position (cue_at s j).piano ≡ true)
      cue_fine j l k =
          let m : is_in (cue_at s j).position p.cues ≡ true = sym (in_same (cue_at s j).position (kept_by s) p.cues f.cues)
          ∙ kept_in s.cues j (empty_cue s.piano) l k in (
            g.machine.below (cue_at s j).position m,
            rendered_sound i p.score (cue_at s j).position (state_cue i s work j) (f.held j (omega (arith, g.four)) k),
          )

  -- a state held for 0, for t or for a kept cue is the render's there
  pub held_render : (x : ℕ) → (x ≡ 0) ⊎ (is_in x (s.t ∷ kept_by s) ≡ true) → held_at i s work x ≡ render_state i p.score x
  held_render x m =
      held_cases i s work x (λ st. st ≡ render_state i p.score x)
      (λ e. f.now ∙ ap (render_state i p.score) (sym f.position ∙ sym (eqb-true x s.t e)))
      (λ h.
      let l = slot_there i s work x g.four h in
      let k = slot_kept x s.cues (empty_cue s.piano) (omega (arith, l, g.four)) in
      f.held (slot_at x s.cues) l k.0 ∙ ap (render_state i p.score) k.1)
      (λ a b.
      ⊎_elim
      (λ (z : x ≡ 0). sym (ap (render_state i p.score) z ∙ render_zero i p.score))
      (λ (z : is_in x (s.t ∷ kept_by s) ≡ true).
      ⊎_elim (λ (y : x ≡ s.t). absurd (eqb-false x s.t a y)) (λ (y : is_in x (kept_by s) ≡ true). true_or_false (is_in x (kept_by s)) y b)
      (in_cases x s.t (kept_by s) z))
      m)

  pub score_length : length p.score ≡ s.count
  score_length = ap length (sym f.score) ∙ score_size s g.few g.long
