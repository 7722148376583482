-- The files that a call may have changed, by what it tried.
use Rattle.std.proofs.Common.{◌≡◌, ◌∙◌, ℕ, ◌%◌, ◌^◌, Bool, true, false, List, Option, Result, Ok, Err, refl, sym, ap}
use Rattle.std.proofs.Common.{subst, inl, inr}
use Rattle.alpha_io.specs.declared.Failed.{Failed}
use Rattle.alpha_io.specs.Faults.{Faulted}
use Rattle.alpha_io.specs.SinkChange.{SinkChange}
use Rattle.alpha_request.specs.Command.{Command, of_image, make, link, replay, record_run, run, imprecise, trial}
use Rattle.alpha_request.specs.declared.request.ImageCommand.TheVariants as asked
use Rattle.alpha_request.specs.declared.options.RunOptions.{RunOptions}
use Rattle.alpha_replay.specs.Journal.{spelling}
use Rattle.alpha_cmd.specs.declared.decision.Decision.{Decision}
use Rattle.alpha_cmd.specs.declared.status.Status.{Status}
use Rattle.alpha_cmd.specs.declared.status.Status.TheVariants.{ShelfFault, SinkFault}
use Rattle.alpha_cmd.specs.Answer.{Answer}
use Rattle.alpha_cmd.specs.AnswerBy.{World, told}
use Rattle.alpha_cmd.specs.Asks.{AsksFor}
use Rattle.alpha_cmd.specs.Call.{Call}
use Rattle.alpha_cmd.specs.CommandEffect.{AttemptIn}
use Rattle.alpha_cmd.specs.Commands.{form_of, AnswerOf, Spares}
use Rattle.alpha_cmd.specs.Commands.Imprecise.{Plan, answer_imprecise}
use Rattle.alpha_cmd.specs.Commands.Imprecise as wilds
use Rattle.alpha_cmd.specs.Commands.Record.{KeepsBehind, IsKeptRun}
use Rattle.alpha_cmd.specs.Ends.{OutcomeOrFault, Leaves, status_in}
use Rattle.alpha_cmd.specs.Kept.{Kept, nothing, file, spoilt, HasKept}
use Rattle.alpha_cmd.specs.Outcome.{continues, stops}
use Rattle.alpha_cmd.specs.Promises.{SparesFiles}
use Rattle.alpha_cmd.specs.Attempts.{CutBy, MaySpoilBy}
use Rattle.alpha_cmd.proofs.Commands.{command_form-lawful}
use Rattle.alpha_cmd.proofs.Commands.Imprecise.{imprecise-plain}
use Rattle.alpha_cmd.proofs.Commands.Run.{run_plain}
use Rattle.alpha_cmd.proofs.FormLaws.{is_fault}

-- ---- an answer with the status of a shelf that failed keeps nothing

ShelfFault-not_plain : {P : Type 0} (s : Status) → is_fault s ≡ false → s ≡ ShelfFault → P
ShelfFault-not_plain s plain e = absurd (let x : true ≡ false = sym (ap is_fault e) ∙ plain in cc)

IsEndStatus-no_fault : (force : Bool) (s : Status) → wilds.IsEndStatus force s → is_fault s ≡ false
IsEndStatus-no_fault force s (end, (lost, (n, may, e))) = ap is_fault e ∙ imprecise-plain end lost n

IsKeptRun-shelf_fault_keeps_nothing : (options : RunOptions) (force : Bool) (out : List ℕ) (w : World) (plan : Plan)
    (a b : Answer)
    → (k : IsKeptRun options force out w plan b) → a ≡ b → a.status ≡ ShelfFault → a.kept ≡ nothing
IsKeptRun-shelf_fault_keeps_nothing options force out w plan a b k is e = by k.keeps
  where
    by : KeepsBehind w out (spelling k.journal) (answer_imprecise w.input k.shown) b → a.kept ≡ nothing
    by (inl h) =
        ShelfFault-not_plain b.status
        (ap (λ (x : Answer). is_fault x.status) h.1 ∙ imprecise-plain k.shown.end k.shown.lost (k.shown.drawn % 2 ^ 64))
        (ap (λ (x : Answer). x.status) (sym is) ∙ e)
    by (inr h) = ap (λ (x : Answer). x.kept) (is ∙ h.1)

AnswerOf-shelf_fault_keeps_nothing : (command : Command) (w : World) (a : Answer) → AnswerOf command w a
    → a.status ≡ ShelfFault
    → a.kept ≡ nothing
AnswerOf-shelf_fault_keeps_nothing command w a (stops s line, h, is) e = ap (λ (x : Answer). x.kept) is
AnswerOf-shelf_fault_keeps_nothing (of_image asked.Debug name) w a (continues b, h, is) e =
    ShelfFault-not_plain b.status
    (elim ((command_form-lawful (of_image asked.Debug name) w).status b
    h) [ inl q ↦ ap is_fault q | inr q ↦ ap is_fault q ])
    (ap (λ (x : Answer). x.status) (sym is) ∙ e)
AnswerOf-shelf_fault_keeps_nothing (of_image asked.Check name) w a (continues b, h, is) e =
    ShelfFault-not_plain b.status (ap is_fault ((command_form-lawful (of_image asked.Check name) w).status b h))
    (ap (λ (x : Answer). x.status) (sym is) ∙ e)
AnswerOf-shelf_fault_keeps_nothing (of_image asked.Dis name) w a (continues b, h, is) e =
    ShelfFault-not_plain b.status (ap is_fault ((command_form-lawful (of_image asked.Dis name) w).status b h))
    (ap (λ (x : Answer). x.status) (sym is) ∙ e)
AnswerOf-shelf_fault_keeps_nothing (make what name out) w a (continues b, h, is) e =
    ShelfFault-not_plain b.status (ap is_fault ((command_form-lawful (make what name out) w).status b h))
    (ap (λ (x : Answer). x.status) (sym is) ∙ e)
AnswerOf-shelf_fault_keeps_nothing (link entry out names) w a (continues b, h, is) e =
    ShelfFault-not_plain b.status (ap is_fault ((command_form-lawful (link entry out names) w).status b h))
    (ap (λ (x : Answer). x.status) (sym is) ∙ e)
AnswerOf-shelf_fault_keeps_nothing (replay name journal) w a (continues b, h, is) e =
    ShelfFault-not_plain b.status (ap is_fault ((command_form-lawful (replay name journal) w).status b h))
    (ap (λ (x : Answer). x.status) (sym is) ∙ e)
AnswerOf-shelf_fault_keeps_nothing (record_run options choices force name out) w a
    (continues b, (plan, planned, inl k), is) e =
    IsKeptRun-shelf_fault_keeps_nothing options force out w plan a b k is e
AnswerOf-shelf_fault_keeps_nothing (record_run options choices force name out) w a
    (continues b, (plan, planned, inr k), is) e =
    ap (λ (x : Answer). x.kept) (is ∙ k.is)
AnswerOf-shelf_fault_keeps_nothing (run options name) w a (continues b, h, is) e =
    let ends = (command_form-lawful (run options name) w).status b h in
    ShelfFault-not_plain b.status (ap is_fault ends.1 ∙ run_plain ends.0) (ap (λ (x : Answer). x.status) (sym is) ∙ e)
AnswerOf-shelf_fault_keeps_nothing (imprecise options choices force name) w a (continues b, h, is) e =
    ShelfFault-not_plain b.status
    (IsEndStatus-no_fault force b.status ((command_form-lawful (imprecise options choices force name) w).status b h))
    (ap (λ (x : Answer). x.status) (sym is) ∙ e)
AnswerOf-shelf_fault_keeps_nothing (trial blocks) w a (continues b, h, is) e =
    ShelfFault-not_plain b.status (ap is_fault ((command_form-lawful (trial blocks) w).status b h))
    (ap (λ (x : Answer). x.status) (sym is) ∙ e)

-- ---- what a command did to the files

module _ (words : List (List ℕ)) (command : Command) (asks : AsksFor words command) (c : Call) (d : Decision)
    (rest : Answer) (out notes : SinkChange) (l : Leaves (AttemptIn (form_of command) c) rest c.shelf out notes)
    (says : rest.status ≡ d.status) (spares : Spares command d.status c.shelf.old c.shelf.new) where
  SparesFiles-nothing_kept : l.tried.kept ≡ nothing → SparesFiles words d.status c
  SparesFiles-nothing_kept none = inl (subst (λ (k : Kept). HasKept k c.shelf) none l.files)

  SparesFiles-answered : (kept : Kept) → l.tried.kept ≡ kept → AnswerOf command (told c) l.tried
      → SparesFiles words d.status c
  SparesFiles-answered nothing e is = SparesFiles-nothing_kept e
  SparesFiles-answered (file name bytes) e is =
      inr (
        command,
        asks,
        spares,
        λ same. absurd (let x = sym e
            ∙ AnswerOf-shelf_fault_keeps_nothing command (told c) l.tried is (sym l.status_is ∙ (says ∙ same)) in cc),
      )
  SparesFiles-answered (spoilt name) e is =
      inr (
        command,
        asks,
        spares,
        λ same. absurd (let x = sym e
            ∙ AnswerOf-shelf_fault_keeps_nothing command (told c) l.tried is (sym l.status_is ∙ (says ∙ same)) in cc),
      )

  shelf_fault-Faulted : CutBy (Faulted c.shelf.before c.shelf.now) l.tried.status → l.tried.status ≡ ShelfFault
      → Faulted c.shelf.before c.shelf.now
  shelf_fault-Faulted (inl h) e = absurd (let x = sym h ∙ e in cc)
  shelf_fault-Faulted (inr h) e = h.1

  SparesFiles-cut_short : CutBy (Faulted c.shelf.before c.shelf.now) l.tried.status
      → MaySpoilBy (form_of command) (told c) l.tried.status l.tried.kept → SparesFiles words d.status c
  SparesFiles-cut_short cause (inl none) = SparesFiles-nothing_kept none
  SparesFiles-cut_short cause (inr s) =
      inr (
        command,
        asks,
        spares,
        λ same. (shelf_fault-Faulted cause s.status_is, s.name, s.bytes, s.answer, s.is, s.kept_is),
      )

  SparesFiles-attempt : AttemptIn (form_of command) c l.tried → SparesFiles words d.status c
  SparesFiles-attempt (inl is) = SparesFiles-answered l.tried.kept refl is
  SparesFiles-attempt (inr (inl cut)) = SparesFiles-cut_short cut.cause cut.kept
  SparesFiles-attempt (inr (inr (inl starved))) = SparesFiles-nothing_kept starved.kept
  SparesFiles-attempt (inr (inr (inr unkept))) = SparesFiles-cut_short unkept.cause unkept.kept

pub SparesFiles-by_outcome : (words : List (List ℕ)) (command : Command) → AsksFor words command → (c : Call)
    (r : Result Decision Failed) (left : Option (List ℕ)) (out notes : SinkChange)
    → OutcomeOrFault (AttemptIn (form_of command) c) r left c.shelf out notes
    → Spares command (status_in r) c.shelf.old c.shelf.new → SparesFiles words (status_in r) c
SparesFiles-by_outcome words command asks c (Err e) left out notes tried spares =
    inr (command, asks, spares, λ same. absurd (let x : SinkFault ≡ ShelfFault = same in cc))
SparesFiles-by_outcome words command asks c (Ok d) left out notes tried spares =
    SparesFiles-attempt words command asks c d _ out notes tried refl spares tried.is
