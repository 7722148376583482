use Rattle.std.proofs.Common.{◌∙◌, [], None, refl, sym, ap, subst, inl}
use Rattle.alpha_io.proofs.Sinks.{Puts-none}
use Rattle.alpha_replay.specs.declared.replaying.Replayed.{Replayed}
use Rattle.alpha_cmd.specs.Answer.{Answer}
use Rattle.alpha_cmd.specs.AnswerBy.{world}
use Rattle.alpha_cmd.specs.Commands.Replay.{RunOf, shown, form, kind, run_line}
use Rattle.alpha_cmd.specs.Form.{needs_files}
use Rattle.alpha_cmd.specs.Outcome.{Gives, continues}
use Rattle.alpha_cmd.specs.ReplayRan.{status_replayed}
use Rattle.alpha_cmd.specs.ShowsDone.{IsOrFails}
use Rattle.alpha_cmd.specs.declared.status.Status.{Status}
use Rattle.alpha_replay.specs.Replay.{replayed}
use Rattle.alpha_cmd.proofs.EffectsAfterRead.{does_stop}
use Rattle.alpha_cmd.proofs.Commands.Replay.{run_plain}
use Rattle.alpha_cmd.proofs.EndStatuses.{HasEnded-not_stopped}
use Rattle.alpha_cmd.proofs.ReplaysRead.{same_replay}
use Rattle.alpha_cmd.proofs.StageEffects.{does_answer}
use Rattle.alpha_cmd.proofs.replay.replay.Goals as goal

pub returns-in-Ok-clause-does : goal.returns-in-Ok-clause-does
returns-in-Ok-clause-does g c =
    let input = g.S.Source.left c.args.devices.now.input in
    let r = c.in-Ok.replayed in
    let reads = c.in-Ok.ensures.stage.shelf in
    does_answer g.H.Shelf g.S.Source g.K.Sink g.N.Sink c.args.devices.now c.run_of.new.shelf
    (form c.args.file.now c.args.journal.now) c.of_replay.result
    (continues (shown input r), (r, c.in-Ok.ensures.stage.ok, refl), c.of_replay.ensures input)
    (record {
      files = reads.files;
      takes = reads.takes;
      later = reads.later;
      faults_unchanged = λ stays. reads.faults_unchanged (λ e. cc);
    })

pub returns-in-Err-clause-does : goal.returns-in-Err-clause-does
returns-in-Err-clause-does g c =
    does_stop g.H.Shelf g.S.Source g.K.Sink g.N.Sink c.args.devices.now c.run_of.new.shelf
    (λ files. RunOf files c.args.file.now c.args.journal.now)
    (λ w r. Gives (shown w.input r)) needs_files kind c.of_stop.result c.in-Err.stop c.of_stop.ensures
    c.in-Err.ensures.stage

pub returns-in-Ok-clause-ran : goal.returns-in-Ok-clause-ran
returns-in-Ok-clause-ran g c = λ ends.
    let old = c.args.devices.now in
    let h = c.in-Ok.ensures.read in
    let says = c.of_replay.ensures None in
    record {
      image = h.image;
      listed = h.listed;
      answer = h.answer;
      middle = h.middle;
      good = h.good;
      read = h.read;
      is_journal = h.is_journal;
      read_journal = h.read_journal;
      replays = h.replays;
      runs = h.runs;
      alike = h.alike;
      has = record {
        status_is = ap (λ (a : Answer). a.status) says;
        front = [];
        put = Puts-none (g.K.Sink.written old.out) (g.K.Sink.faults old.out);
        noted = Puts-none (g.N.Sink.written old.notes) (g.N.Sink.faults old.notes);
        output_is =
            ap (λ (a : Answer). a.output) says ∙ ap (λ (r : Replayed). run_line r.units r.reports) (sym h.has);
        line_is = ap (λ (a : Answer). a.line) says;
      };
    }

pub returns-in-Err-clause-ran : goal.returns-in-Err-clause-ran
returns-in-Err-clause-ran g c = λ ends.
    let w = world g.H.Shelf g.S.Source c.args.devices.now.shelf c.args.devices.now.input in
    absurd (HasEnded-not_stopped (RunOf w.files c.args.file.now c.args.journal.now) _
    (run_plain c.args.file.now c.args.journal.now w.files) c.in-Err.stop c.of_stop.result c.of_stop.ensures
    c.in-Err.ensures.stage.refused ends)

pub returns-in-Ok-clause-ends : goal.returns-in-Ok-clause-ends
returns-in-Ok-clause-ends g c = λ image listed read.
    let h = c.in-Ok.ensures.read in
    inl
    (ap (λ (a : Answer). a.status) (c.of_replay.ensures None)
    ∙ ap status_replayed (sym h.replays
    ∙ same_replay (g.H.Shelf.replies c.args.devices.now.shelf) (g.H.Shelf.replies c.run_of.new.shelf) c.args.file.now
    c.args.journal.now h.image image h.listed listed (record {
      middle = h.middle;
      good = h.good;
      read = h.read;
      is_journal = h.is_journal;
      read_journal = h.read_journal;
    }) read))

pub returns-in-Err-clause-ends : goal.returns-in-Err-clause-ends
returns-in-Err-clause-ends g c = λ image listed read.
    subst (λ (status : Status). IsOrFails (status_replayed (replayed image listed)) status)
    (sym (ap (λ (a : Answer). a.status) (c.of_stop.ensures None))) (c.in-Err.ensures.whole image listed read)
