-- What a command did, in one relation.
use Rattle.std.specs.Prelude.{◌≡◌, ◌≢◌, ◌⊎◌, Result, IfOk}
use Rattle.alpha_io.specs.declared.Failed.{Failed}
use Rattle.alpha_io.specs.declared.shelf.Shelf as shelves
use Rattle.alpha_io.specs.declared.source.Source as sources
use Rattle.alpha_io.specs.declared.sink.Sink as sinks
use Rattle.alpha_io.specs.Faults.{Faulted}
use Rattle.alpha_io.specs.ShelfChange.{shelf_change}
use Rattle.alpha_io.specs.SinkChange.{sink_change}
use Rattle.alpha_seq.specs.Devices.{LeavesEnd, drawn}
use Rattle.alpha_cmd.specs.declared.decision.Decision.{Decision}
use Rattle.alpha_cmd.specs.declared.devices.Devices.{Devices}
use Rattle.alpha_cmd.specs.declared.status.Status.TheVariants.{ShelfFault, InputFault}
use Rattle.alpha_cmd.specs.Answer.{Answer}
use Rattle.alpha_cmd.specs.AnswerBy.{told}
use Rattle.alpha_cmd.specs.Call.{Call, called}
use Rattle.alpha_cmd.specs.Ends.{OutcomeOrFault, status_in}
use Rattle.alpha_cmd.specs.Form.{Form, MayTakeBy, SparesBy}
use Rattle.alpha_cmd.specs.Kept.{Serves}
use Rattle.alpha_cmd.specs.Attempts.{CountStays, AttemptBy}

-- what it tries
abbrev pub AttemptIn : Form → Call → Answer → Type 0
AttemptIn f c = AttemptBy (Faulted c.shelf.before c.shelf.now) (Faulted c.input.before c.input.now) f (told c)

-- It decided, and wrote the front of what it tries. The shelf failed only under its status, and told files stay, but
-- for the one that it keeps. Input was taken only where its kind says so, from its front on, and failed only under its
-- status.
pub record CommandEffect {H S K N : Type 0} (h : shelves.Ghosts H) (s : sources.Ghosts S) (k : sinks.Ghosts K)
    (n : sinks.Ghosts N)
    (f : Form) (r : Result Decision Failed) (old new : Devices H S K N) : Type 0 where
  pub tried : OutcomeOrFault (AttemptIn f (called h s k n old new)) r (s.left new.input)
      (shelf_change h old.shelf new.shelf) (sink_change k old.out new.out)
      (sink_change n old.notes new.notes)
  pub shelf : Serves (shelf_change h old.shelf new.shelf) (IfOk r (λ d. d.status ≢ ShelfFault))
  pub files : SparesBy f.kind (status_in r) (h.files old.shelf) (h.files new.shelf)
  pub input : (new.input ≡ old.input) ⊎ MayTakeBy f.kind (status_in r)
  pub source : CountStays (drawn s old.input new.input) (IfOk r (λ d. d.status ≢ InputFault))
  pub rest : LeavesEnd (drawn s old.input new.input)
