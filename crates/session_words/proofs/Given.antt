-- What owning a session tells: every premise of the law that it is read back. Assumes nothing.
use mathlib.Core.List.{List, [], ◌∷◌}
use mir.Val.{Val}
use denote.Array.{Array, each}
use denote.Floats.{passes}
use denote.Laws.{Is}
use denote.Shadow.{shadow}
use denote.Enum.Declared as Chosen
use denote.Struct.Declared as Declared
use Rattle.score.specs.declared.Event.{Event}
use Rattle.score.specs.declared.Event.TheVariants.{NoteOn, NoteOff, Pedal, HandDamp}
use Rattle.score.specs.contracts.Event as EventType
use Rattle.score.specs.declared.TimedEvent.{TimedEvent}
use Rattle.score.specs.contracts.TimedEvent as TimedType
use Rattle.session_cues.specs.declared.Cue.{Cue}
use Rattle.session_cues.specs.contracts.Cue as CueType
use Rattle.session_record.specs.declared.Session.{Session}
use Rattle.session_record.specs.contracts.Session as SessionType
use Rattle.session_words.specs.Items.{AllOf}
use Rattle.session_words.proofs.PianoGiven.{all_owned, fit_piano}
use Rattle.session_words.specs.Laws.{FitEvent, FitTimed, FitCue, FitSession}

fit_event : (e : Event) (vs : List Val) → Is (Chosen.row EventType.the_type) e vs → FitEvent e
unfolding FitEvent
fit_event (NoteOn k v) vs g = let o = g.1.1.1.1 in (o.0.1, passes _ o.1.0.1)
fit_event (NoteOff k) vs g = g.1.1.1.1.0.1
fit_event (Pedal d) vs g = tt
fit_event (HandDamp k) vs g = g.1.1.1.1.0.1

fit_timed : (e : TimedEvent) (vs : List Val) → Is (Declared.row TimedType.the_type) e vs → FitTimed e
fit_timed e vs g = fit_event e.event _ g.1.1.1.0

fit_cue : (c : Cue) (vs : List Val) → Is (Declared.row CueType.the_type) c vs → FitCue c
fit_cue c vs g = fit_piano c.piano _ g.1.1.1.1.0

-- an array of cues that is no field
pub fit_cues : (cs : List Cue) (vs : List Val) → Is (Array (Declared.row CueType.the_type) 4) cs vs → AllOf FitCue cs
unfolding AllOf
fit_cues cs vs g = go cs _ g.1.1
  where
    go : (cs : List Cue) (us : List Val) → shadow (each Cue (Declared.row CueType.the_type).own_val cs us) → AllOf FitCue cs
    go [] us h = tt
    go (c ∷ cs) [] h = absurd h
    go (c ∷ cs) (u ∷ us) h = (fit_cue c _ h.0, go cs us h.1)

pub fit_session : (s : Session) (vs : List Val) → Is (Declared.row SessionType.the_type) s vs → FitSession s
fit_session s vs g =
    let o = g.1.1 in
    let events = o.1.1.0.1 in
    let cues = o.1.1.1.0.1 in
    record {
      events_long = events.0.1;
      events = all_owned (Declared.row TimedType.the_type).own_val FitTimed (λ x v h. fit_timed x _ h) s.events _ events.1;
      cues_long = cues.0.1;
      cues = all_owned (Declared.row CueType.the_type).own_val FitCue (λ x v h. fit_cue x _ h) s.cues _ cues.1;
      piano = fit_piano s.piano _ o.1.1.1.1.0;
    }
