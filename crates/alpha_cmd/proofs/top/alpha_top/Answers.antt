use Rattle.std.proofs.Common.{◌≡◌, refl, rules, inr}
use Rattle.alpha_io.specs.SinkChange.{sink_change}
use Rattle.alpha_cmd.specs.declared.status.Status.TheVariants.{Done, SinkFault}
use Rattle.alpha_cmd.specs.AnswerBy.{told}
use Rattle.alpha_cmd.specs.Asks.{AsksFor}
use Rattle.alpha_cmd.specs.Call.{Call, called}
use Rattle.alpha_cmd.specs.RunsAsked.{RunsAsked}
use Rattle.alpha_cmd.proofs.CallPromises as promised
use Rattle.alpha_cmd.proofs.EndStatuses.{IsRunEnd-HasEnded, HasEnded-not_SinkFault}
use Rattle.alpha_cmd.proofs.RunsOnReplies.{RunsAsked-Listed, RunsAsked-Ran, ShowsAsked-call}
use Rattle.alpha_cmd.proofs.EndsWhere.{EndsAsRun-sink_fault_last, EndsAsRun-fails_always}
use Rattle.alpha_cmd.proofs.top.alpha_top.Goals as goal

pub deliver-requires : goal.deliver-requires
deliver-requires g c =
    let did = called g.H.Shelf g.S.Source g.K.Sink g.N.Sink c.args.devices.now c.decide.new.devices in
    promised.not_sink c.args.words.now did c.in-Ok.decision did.out did.notes c.in-Ok.ensures.tried

pub returns-in-Ok : goal.returns-in-Ok
returns-in-Ok g c =
    let old = c.args.devices.now in
    let mid = c.decide.new.devices in
    let did = called g.H.Shelf g.S.Source g.K.Sink g.N.Sink old mid in
    let words = c.args.words.now in
    let decided = c.in-Ok.decision.status in
    let status = c.deliver.result in
    let is = c.deliver.ensures.status in
    let how =
    promised.Leaves-CallEnded g.K.Sink g.N.Sink old.out mid.out c.deliver.new.out old.notes mid.notes
    c.deliver.new.notes words
    did c.in-Ok.decision status
    c.in-Ok.ensures.tried is c.deliver.ensures.output c.deliver.ensures.notes c.deliver.ensures.output_part
    c.deliver.ensures.notes_part c.deliver.ensures.failed in
    let given : Call = record did {
      out = sink_change g.K.Sink old.out c.deliver.new.out;
      notes = sink_change g.N.Sink old.notes c.deliver.new.notes;
    } in
    let shows =
    ShowsAsked-call g.K.Sink g.N.Sink old.out mid.out c.deliver.new.out old.notes mid.notes c.deliver.new.notes words
    did
    c.in-Ok.decision status is c.deliver.ensures.output
    c.deliver.ensures.notes c.in-Ok.ensures.ran in
    let runs : RunsAsked words status given = λ command asks. record {
      shows = shows command asks;
      ends = EndsAsRun-sink_fault_last command status decided did.shelf is (c.in-Ok.ensures.ends command asks);
    } in
    record {
      whole = promised.CallEnded-EndsWhole how;
      part = promised.CallEnded-EndsCut how;
      shelf = search rules;
      files = promised.SparesFiles-decided status decided is words did c.in-Ok.ensures.files;
      input = promised.TakesInput-decided status decided is (mid.input ≡ old.input) words c.in-Ok.ensures.input;
      source = search rules;
      ended = promised.CallEnded-EndsAsked how;
      found = promised.CallEnded-LosesNone how;
      rest = c.in-Ok.ensures.rest;
      script = c.in-Ok.ensures.script;
      given = promised.CallEnded-GivesOne how;
      exact = promised.CallEnded-GivesThe how;
      replied = promised.Replies-decided status decided is words did.shelf c.in-Ok.ensures.replied;
      restarts = promised.Replies-Restarts status decided is words did.shelf c.in-Ok.ensures.replied;
      checked = promised.Replies-Checked status decided is words did.shelf c.in-Ok.ensures.replied;
      accepted = promised.CallEnded-Accepts how;
      alike = promised.CallEnded-Alike how;
      ran_told = promised.CallEnded-RanTold how;
      runs = runs;
      ran = RunsAsked-Ran words status given runs;
      listed = RunsAsked-Listed words status given runs;
      unread = promised.CallEnded-Unread how;
      unread_alike = promised.unread_alike how;
      fixed = promised.CallEnded-Fixes how;
      modules = promised.CallEnded-KeepsModules how;
      links = promised.CallEnded-KeepsLinks how;
      replays = promised.CallEnded-ShowsRuns how;
      recorded =
          promised.KeepsUnder-decided status decided is (AsksFor words)
          (told did) did.shelf.new c.in-Ok.ensures.recorded;
    }

-- a sink failed on the way
pub returns-in-Err : goal.returns-in-Err
returns-in-Err g c =
    let did = called g.H.Shelf g.S.Source g.K.Sink g.N.Sink c.args.devices.now c.decide.new.devices in
    let how : promised.CallEnded c.args.words.now SinkFault did = promised.failed refl c.in-Err.ensures.tried in
    record {
      whole = promised.CallEnded-EndsWhole how;
      part = promised.CallEnded-EndsCut how;
      shelf = search rules;
      files = c.in-Err.ensures.files;
      input = c.in-Err.ensures.input;
      source = search rules;
      ended = promised.CallEnded-EndsAsked how;
      found = promised.CallEnded-LosesNone how;
      rest = c.in-Err.ensures.rest;
      script = c.in-Err.ensures.script;
      given = promised.CallEnded-GivesOne how;
      exact = promised.CallEnded-GivesThe how;
      replied = λ command asks e. absurd (let x : SinkFault ≡ Done 0 = e in cc);
      restarts = λ file asks e. absurd (let x : SinkFault ≡ Done 0 = e in cc);
      checked = λ file is plain e. absurd (let x : SinkFault ≡ Done 0 = e in cc);
      accepted = promised.CallEnded-Accepts how;
      alike = promised.CallEnded-Alike how;
      ran_told = promised.CallEnded-RanTold how;
      runs = λ command asks. record {
        shows = λ ends. absurd (HasEnded-not_SinkFault ends);
        ends = EndsAsRun-fails_always command SinkFault did.shelf (inr refl);
      };
      ran = λ file plain. (
        λ is. record {
          shows = λ ends. absurd (HasEnded-not_SinkFault (IsRunEnd-HasEnded SinkFault ends));
          ends = λ image good has read. inr (inr (inr refl));
        },
        λ is. record {
          shows = λ ends. absurd (HasEnded-not_SinkFault (IsRunEnd-HasEnded SinkFault ends));
          ends = λ image good accepted read. inr (inr (inr refl));
        },
      );
      listed = λ file asks. record {
        shows = λ e. absurd (let x : SinkFault ≡ Done 0 = e in cc);
        ends = λ image good read. inr (inr refl);
      };
      unread = promised.CallEnded-Unread how;
      unread_alike = promised.unread_alike how;
      fixed = promised.CallEnded-Fixes how;
      modules = promised.CallEnded-KeepsModules how;
      links = promised.CallEnded-KeepsLinks how;
      replays = promised.CallEnded-ShowsRuns how;
      recorded = c.in-Err.ensures.recorded;
    }
