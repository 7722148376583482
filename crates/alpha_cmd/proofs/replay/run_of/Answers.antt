use Rattle.std.proofs.Common.{refl, rules}
use Rattle.std.proofs.lemmas.Result.{err_from_is_err_and}
use Rattle.alpha_cmd.specs.Commands.Replay.{JournalOf, Plays}
use Rattle.alpha_cmd.specs.Image.{ImageOf}
use Rattle.alpha_restart.proofs.Agreement.{IsAccepted-IsRestartable}
use Rattle.alpha_replay.proofs.ItemEffects.{replayed-IsRun, replayed-IsSequential}
use Rattle.alpha_replay.specs.Journal.{spelling}
use Rattle.alpha_cmd.proofs.PlansRead.{IsReadWhole-behind}
use Rattle.alpha_cmd.proofs.ReplaysRead.{same_replay, untaken_fails, memory_fails, IfErr-played}
use Rattle.alpha_cmd.proofs.StageLaws.{IfOk-more}
use Rattle.alpha_cmd.proofs.EffectsAfterRead.{reads_both, second_stops}
use Rattle.alpha_cmd.proofs.Commands.Replay.{journal_after, played_by}
use Rattle.alpha_cmd.proofs.replay.run_of.Goals as goal

pub returns-in_err-journal-clause-stage : goal.returns-in_err-journal-clause-stage
returns-in_err-journal-clause-stage g c =
    let p = err_from_is_err_and c.from_residual-in_err-journal.result c.from_residual-in_err-journal.ensures.1 in
    rw (p.1, p.2)
    (second_stops g.H.Shelf c.args.shelf.now c.load.new.shelf c.load_journal.new.shelf
    (λ files. ImageOf files c.args.file.now) (λ files. JournalOf files c.args.journal.now) Plays
    (λ replayed. replayed) c.in_ok-image.image c.in_err-journal.field-0.0 _
    (λ e. cc) c.in_ok-image.ensures.stage.ok c.in_ok-image.ensures.stage.shelf c.in_err-journal.ensures.stage)

pub returns-clause-stage : goal.returns-clause-stage
returns-clause-stage g c =
    let a = g.H.Shelf.files c.args.shelf.now in
    let p = c.in_ok-journal.journal in
    let spelled = journal_after a (g.H.Shelf.files c.load.new.shelf) c.args.journal.now p
    c.in_ok-image.ensures.stage.shelf.files c.in_ok-journal.ensures.stage.ok in
    record {
      ok = search (rules, spelled);
      refused =
          played_by _ a c.args.file.now c.args.journal.now c.in_ok-image.image p c.play.result
          c.in_ok-image.ensures.stage.ok spelled c.play.ensures.refused;
      shelf =
          reads_both g.H.Shelf c.args.shelf.now c.load.new.shelf c.load_journal.new.shelf _ _ _ (λ e. cc)
          (λ h e. cc) c.in_ok-image.ensures.stage.shelf c.in_ok-journal.ensures.stage.shelf;
    }

pub returns-clause-read : goal.returns-clause-read
returns-clause-read g c =
    let image = c.in_ok-image.image in
    let p = c.in_ok-journal.journal in
    IfOk-more c.play.result (λ r replays. record {
      image = image;
      listed = p;
      answer = r;
      middle = g.H.Shelf.replies c.load.new.shelf;
      good = c.in_ok-image.ensures.read.0;
      read = c.in_ok-image.ensures.read.1;
      is_journal = c.in_ok-journal.ensures.read.0;
      read_journal = c.in_ok-journal.ensures.read.1;
      replays = replays;
      runs = replayed-IsRun image p r replays;
      alike = λ safe.
          replayed-IsSequential image p r replays (IsAccepted-IsRestartable image c.in_ok-image.ensures.read.0 safe);
      has = refl;
    }) c.play.ensures.ok

pub returns-in_err-image-clause-whole : goal.returns-in_err-image-clause-whole
returns-in_err-image-clause-whole g c = λ image listed read.
    let p = err_from_is_err_and c.from_residual.result c.from_residual.ensures.1 in
    let (rest, behind) =
    IsReadWhole-behind read.middle (g.H.Shelf.replies c.load.new.shelf) c.args.journal.now (spelling listed)
    read.read_journal in
    rw (p.1, p.2)
    (memory_fails _ c.in_err-image.field-0.0
    (c.in_err-image.ensures.first image read.middle rest read.good read.read behind))

pub returns-in_err-journal-clause-whole : goal.returns-in_err-journal-clause-whole
returns-in_err-journal-clause-whole g c = λ image listed read.
    let p = err_from_is_err_and c.from_residual-in_err-journal.result c.from_residual-in_err-journal.ensures.1 in
    rw (p.1, p.2)
    (untaken_fails (g.H.Shelf.replies c.args.shelf.now) (g.H.Shelf.replies c.load.new.shelf)
    (g.H.Shelf.replies c.load_journal.new.shelf) c.args.file.now c.args.journal.now c.in_ok-image.image image listed
    c.in_err-journal.field-0.0 c.in_ok-image.ensures.read.1 read c.in_err-journal.ensures.part)

pub returns-clause-whole : goal.returns-clause-whole
returns-clause-whole g c = λ image listed read.
    let found = c.in_ok-image.image in
    let journal = c.in_ok-journal.journal in
    IfErr-played found journal c.play.result _
    (same_replay (g.H.Shelf.replies c.args.shelf.now) (g.H.Shelf.replies c.load_journal.new.shelf) c.args.file.now
    c.args.journal.now found image journal listed (record {
      middle = g.H.Shelf.replies c.load.new.shelf;
      good = c.in_ok-image.ensures.read.0;
      read = c.in_ok-image.ensures.read.1;
      is_journal = c.in_ok-journal.ensures.read.0;
      read_journal = c.in_ok-journal.ensures.read.1;
    }) read) c.play.ensures.refused
