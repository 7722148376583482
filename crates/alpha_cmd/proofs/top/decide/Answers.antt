use Rattle.std.proofs.Common.{◌≡◌, ◌∙◌, Some, IfOk, refl, sym, ap, subst, inl, inr, ⊎_elim}
use Rattle.alpha_io.specs.Faults.{Faulted}
use Rattle.alpha_io.proofs.ShelfLaws.{KeepsFiles-refl}
use Rattle.alpha_seq.specs.Devices.{drawn}
use Rattle.alpha_request.specs.Command.{Command, record_run}
use Rattle.alpha_request.specs.CommandOf.{command_of}
use Rattle.alpha_request.proofs.TrialBlocks.{asked_blocks}
use Rattle.alpha_cmd.specs.AnswerBy.{told}
use Rattle.alpha_cmd.specs.Call.{called}
use Rattle.alpha_cmd.specs.Decision.{answer_in}
use Rattle.alpha_cmd.specs.Ends.{status_in}
use Rattle.alpha_cmd.specs.Commands.{form_of}
use Rattle.alpha_cmd.specs.Form.{Kind, MayTakeBy, SparesBy}
use Rattle.alpha_cmd.specs.CommandEffect.{AttemptIn}
use Rattle.alpha_cmd.specs.Promises.{tried_in}
use Rattle.alpha_cmd.specs.RunsAsked.{DecidesAsked, EndsAsRun}
use Rattle.alpha_cmd.specs.Replied.{Replied}
use Rattle.alpha_cmd.proofs.CallEndings.{Leaves-all, OutcomeOrFault-map}
use Rattle.alpha_cmd.proofs.EndStatuses.{HasEnded-not_memory_status, HasEnded-not_BadWords}
use Rattle.alpha_cmd.proofs.InputLeft.{untouched_input}
use Rattle.alpha_cmd.proofs.SparesFiles.{SparesFiles-by_outcome}
use Rattle.alpha_cmd.proofs.AttemptedBy.{AttemptedBy-of_command, form_of-kind}
use Rattle.alpha_cmd.proofs.EndsWhere.{EndsAsRun-fails_always}
use Rattle.alpha_cmd.proofs.top.decide.Goals as goal

pub returns-in-Ok : goal.returns-in-Ok
returns-in-Ok g c =
    let did = called g.H.Shelf g.S.Source g.K.Sink g.N.Sink c.args.devices.now c.perform.new.devices in
    let command = command_of c.in-Ok.request in
    let asks = c.in-Ok.ensures in
    let does = c.perform.ensures.does in
    record {
      tried =
          OutcomeOrFault-map (AttemptIn (form_of command) did) (tried_in c.args.words.now did)
          (λ t. AttemptedBy-of_command (Faulted did.shelf.before did.shelf.now)
          (Faulted did.input.before did.input.now) c.args.words.now command (told did) t asks)
          did.shelf did.shelf (λ kept h. h) c.perform.result did.input.new.left did.out did.notes does.tried;
      shelf = does.shelf;
      files =
          SparesFiles-by_outcome c.args.words.now command asks did c.perform.result did.input.new.left did.out did.notes
          does.tried
          (subst (λ (k : Kind). SparesBy k (status_in c.perform.result) did.shelf.old did.shelf.new)
          (form_of-kind command) does.files);
      input =
          ⊎_elim (λ (h : c.perform.new.devices.input ≡ c.args.devices.now.input). inl h)
          (λ (h : MayTakeBy (form_of command).kind (status_in c.perform.result)).
          inr (command, asks, subst (λ (k : Kind). MayTakeBy k (status_in c.perform.result)) (form_of-kind command) h))
          does.input;
      source = does.source;
      rest = does.rest;
      script = λ file also. c.perform.ensures.script file (let e = sym asks ∙ also in cc);
      replied = λ also asked done.
          let same : command ≡ also = (let e = sym asks ∙ asked in cc) in
          subst (λ (x : Command). Replied x did.shelf) same (c.perform.ensures.replied done);
      ran = λ also asked ends.
          let same : command ≡ also = (let e = sym asks ∙ asked in cc) in
          subst (λ (x : Command).
          IfOk c.perform.result (λ decision. DecidesAsked x decision did.shelf did.input did.out did.notes))
          same (c.perform.ensures.ran ends);
      ends = λ also asked.
          let same : command ≡ also = (let e = sym asks ∙ asked in cc) in
          subst (λ (x : Command). EndsAsRun x (status_in c.perform.result) did.shelf) same c.perform.ensures.ends;
      recorded = λ options choices force file out end lost n also is.
          let same : command ≡ record_run options choices force file out = (let e = sym asks ∙ also in cc) in
          c.perform.ensures.recorded options choices force file out end lost n same is;
    }

pub returns-in-Err-BadWords-clause-rest : goal.returns-in-Err-BadWords-clause-rest
returns-in-Err-BadWords-clause-rest g c =
    (untouched_input (drawn g.S.Source c.args.devices.now.input c.args.devices.now.input) refl).0

pub returns-in-Err-BadWords-clause-tried : goal.returns-in-Err-BadWords-clause-tried
returns-in-Err-BadWords-clause-tried g c =
    let did = called g.H.Shelf g.S.Source g.K.Sink g.N.Sink c.args.devices.now c.args.devices.now in
    Leaves-all (tried_in c.args.words.now did)
    (answer_in did.input.new.left c.of_status.result) did.shelf did.out.old did.notes.old did.out.now did.notes.now
    (inl
    (inl (rw c.in-Err-BadWords.field-0-is at c.in-Err-BadWords.ensures, c.of_status.ensures.answer did.input.new.left)))
    (KeepsFiles-refl did.shelf.old)

pub returns-in-Err-BadWords-clause-replied : goal.returns-in-Err-BadWords-clause-replied
returns-in-Err-BadWords-clause-replied g c =
    λ command asks done. absurd (let x = sym c.of_status.ensures.status ∙ done in cc)

pub returns-in-Err-NoMemory-clause-replied : goal.returns-in-Err-NoMemory-clause-replied
returns-in-Err-NoMemory-clause-replied g c =
    λ command asks done. absurd (let x = sym c.of_status-in-Err-NoMemory.ensures.status ∙ done in cc)

pub returns-in-Err-NoMemory-clause-rest : goal.returns-in-Err-NoMemory-clause-rest
returns-in-Err-NoMemory-clause-rest g c =
    (untouched_input (drawn g.S.Source c.args.devices.now.input c.args.devices.now.input) refl).0

pub returns-in-Err-NoMemory-clause-tried : goal.returns-in-Err-NoMemory-clause-tried
returns-in-Err-NoMemory-clause-tried g c =
    let did = called g.H.Shelf g.S.Source g.K.Sink g.N.Sink c.args.devices.now c.args.devices.now in
    Leaves-all (tried_in c.args.words.now did) (answer_in did.input.new.left c.of_status-in-Err-NoMemory.result)
    did.shelf did.out.old did.notes.old did.out.now did.notes.now
    (inr (inr (c.of_status-in-Err-NoMemory.ensures.answer did.input.new.left))) (KeepsFiles-refl did.shelf.old)

pub returns-in-Err-NoMemory-clause-script : goal.returns-in-Err-NoMemory-clause-script
returns-in-Err-NoMemory-clause-script g c =
    λ file asks. untouched_input (drawn g.S.Source c.args.devices.now.input c.args.devices.now.input) refl

pub perform-requires : goal.perform-requires
perform-requires g c = record { blocks = λ n is. asked_blocks c.args.words.now n (c.in-Ok.ensures ∙ ap Some is) }

pub returns-in-Err-BadWords-clause-ran : goal.returns-in-Err-BadWords-clause-ran
returns-in-Err-BadWords-clause-ran g c =
    λ command asks ends. absurd (HasEnded-not_BadWords c.of_status.result c.of_status.ensures.status ends)

pub returns-in-Err-NoMemory-clause-ran : goal.returns-in-Err-NoMemory-clause-ran
returns-in-Err-NoMemory-clause-ran g c = λ command asks ends.
    absurd
    (HasEnded-not_memory_status c.of_status-in-Err-NoMemory.result c.of_status-in-Err-NoMemory.ensures.status ends)

pub returns-in-Err-BadWords-clause-ends : goal.returns-in-Err-BadWords-clause-ends
returns-in-Err-BadWords-clause-ends g c = λ command asks.
    let none = rw c.in-Err-BadWords.field-0-is at c.in-Err-BadWords.ensures in
    absurd (let e = sym none ∙ asks in cc)

pub returns-in-Err-NoMemory-clause-ends : goal.returns-in-Err-NoMemory-clause-ends
returns-in-Err-NoMemory-clause-ends g c = λ command asks.
    EndsAsRun-fails_always command c.of_status-in-Err-NoMemory.result.status _
    (inl c.of_status-in-Err-NoMemory.ensures.status)
