-- What is decided behind a run, by what the calls of its devices gave.
use Rattle.std.proofs.Common.{◌≡◌, ◌≢◌, ◌∙◌, ◌⊎◌, ℕ, true, false, List, [], ◌++◌, ◌∷◌, Bool, Option, None, Result}
use Rattle.std.proofs.Common.{Ok, Err, IfOk, refl, sym, ap, subst, inl, inr, append-nil, arith}
use Rattle.alpha_io.specs.SinkChange.{SinkChange, sink_change, Puts}
use Rattle.alpha_io.specs.ShelfChange.{shelf_change}
use Rattle.alpha_io.specs.declared.Failed.{Failed}
use Rattle.alpha_io.specs.declared.shelf.Shelf as shelves
use Rattle.alpha_io.specs.declared.sink.Sink.{Ghosts}
use Rattle.alpha_io.specs.Files.{HasFile}
use Rattle.alpha_io.specs.History.{Reply, Kept, IsReadWhole}
use Rattle.alpha_io.proofs.Sinks.{Puts-then}
use Rattle.alpha_dis.specs.Listing.{listing}
use Rattle.alpha_image.specs.Parts.{Parts, IsImage, image_spelling}
use Rattle.alpha_request.specs.declared.request.ImageCommand.{ImageCommand}
use Rattle.alpha_request.specs.declared.request.ImageCommand.TheVariants as images
use Rattle.alpha_request.specs.Command.{Command, of_image, dis, make, link, replay, record_run, run, imprecise, trial}
use Rattle.alpha_request.specs.Asked.{asked}
use Rattle.alpha_request.specs.Origin.{Origin, seed}
use Rattle.alpha_request.specs.Plain.{defaults}
use Rattle.alpha_request.proofs.AskedBy.{asked_rows}
use Rattle.alpha_request.proofs.PlainWords.{plain_run, plain_imprecise}
use Rattle.alpha_request.specs.declared.options.RunOptions.{RunOptions}
use Rattle.alpha_seq.specs.declared.event.Event.{Event}
use Rattle.alpha_seq.specs.declared.machine.Machine.{Machine}
use Rattle.alpha_seq.specs.State.{Program, State}
use Rattle.alpha_seq.specs.Start.{start}
use Rattle.alpha_seq.specs.Run.{begins, end_of, output, notes, Runs}
use Rattle.alpha_seq.specs.Machine.{program_of}
use Rattle.alpha_seq.specs.Devices.{Drawn}
use Rattle.alpha_imprecise.specs.Run.{seen}
use Rattle.alpha_replay.specs.Journal.{Parts as Journal, IsJournal}
use Rattle.alpha_replay.specs.Journal as journals
use Rattle.alpha_run.specs.SeqRun.{ended_by, SeqRan}
use Rattle.alpha_cmd.specs.declared.decision.Decision.{Decision}
use Rattle.alpha_cmd.specs.declared.status.Status.{Status}
use Rattle.alpha_cmd.specs.declared.status.Status.TheVariants.{SinkFault}
use Rattle.alpha_cmd.specs.Status.{class_of}
use Rattle.alpha_cmd.specs.Outcome.{continues}
use Rattle.alpha_cmd.specs.Answer.{Answer}
use Rattle.alpha_cmd.specs.AnswerBy.{status_answer}
use Rattle.alpha_cmd.specs.Call.{Call}
use Rattle.alpha_cmd.specs.Checked.{ReadsImage}
use Rattle.alpha_cmd.specs.Asks.{AsksFor}
use Rattle.alpha_cmd.specs.Commands.Imprecise.{Plan, Planned, IsEndStatus, answer_status, answer_line}
use Rattle.alpha_cmd.specs.RecordRan.{ShowsRecord, DecidesRecord, ReadsAndKeeps}
use Rattle.alpha_cmd.specs.Commands.Replay.{run_line as replay_line}
use Rattle.alpha_cmd.specs.Decision.{answer_in}
use Rattle.alpha_cmd.specs.Image.{ImageOf}
use Rattle.alpha_cmd.specs.Listed.{Listed}
use Rattle.alpha_cmd.specs.Drawn.{but_drawn}
use Rattle.alpha_cmd.specs.RunAnswer.{run_status, run_line, program_by}
use Rattle.alpha_cmd.specs.Ran.{ShowsRun, Ran}
use Rattle.alpha_cmd.specs.ImpreciseRan.{ShowsImprecise, DecidesImprecise}
use Rattle.alpha_cmd.specs.PlanRead.{IsPlanRead, ReadsPlan}
use Rattle.alpha_cmd.specs.RunsAsked.{HasEnded, ShowsOf, ShowsPlan, ShowsAsked, RunsAsked, DecidesRun, DecidesPlan}
use Rattle.alpha_cmd.specs.RunsAsked.{DecidesOf, DecidesAsked, WhereEnded}
use Rattle.alpha_cmd.specs.ShowsDone.{ShowsDone, DecidesDone}
use Rattle.alpha_cmd.proofs.Commands.Imprecise.{planned_image}
use Rattle.alpha_cmd.proofs.EndStatuses.{but_drawn-run_status, IsRunEnd-HasEnded, HasEnded-not_SinkFault}
use Rattle.alpha_cmd.proofs.EndsWhere.{seeded_read}
use Rattle.alpha_cmd.proofs.PlansRead.{seed_plan, seed_plan-read}
use Rattle.alpha_cmd.proofs.RunEffects.{IsStarted, answer_status-run_end}
use Rattle.alpha_cmd.proofs.StageLaws.{IfOk-more}

-- ---- of a file

-- what was decided of an image that was read is so of the file's
pub IfOk-ReadsImage : {H : Type 0} (h : shelves.Ghosts H) (old middle new : H) (name : List ℕ) (image : Parts)
    (r : Result Decision Failed) (P : Parts → Decision → Type 0)
    → IsImage image × IsReadWhole (h.replies old) (h.replies middle) name (image_spelling image)
    → ImageOf (h.files old) name (continues image) → new ≡ middle
    → IfOk r (P image) → IfOk r (λ d. ReadsImage (shelf_change h old new) name (λ x. P x d))
IfOk-ReadsImage h old middle new name image r P read found same did =
    IfOk-more r (λ d has. record {
      image = image;
      good = read.0;
      read =
          subst (λ (s : List Reply). IsReadWhole (h.replies old) s name (image_spelling image))
          (ap h.replies (sym same)) read.1;
      told = (let (bytes, there, spelt) = found in subst (HasFile (h.files old) name) spelt.1 there.0);
      has = has;
    }) did

-- ---- behind a run of the sequential machine

pub ran_decides : (options : RunOptions) (m : Machine) (last : Option Event)
    (rest : ℕ) (new : Machine) (d : Drawn) (out sink : SinkChange)
    → IsStarted options m
    → SeqRan last options.steps rest options.watch m new d out sink → (decision : Decision)
    → ((left : Option (List ℕ))
    → answer_in left decision ≡ status_answer left (answer_status last 0) (answer_line last))
    → DecidesRun options m.image decision d out sink
ran_decides options m last rest new d out sink at ran decision says =
    let same : program_of m ≡ program_by options m.image =
    λ i. record { image = m.image; completion = at.completion i } in
    let first = subst (λ (s : State). Runs (program_of m) (begins s) ran.events ran.at) at.state ran.runs in
    let end = end_of ran.at.event in
    let e : answer_in None decision ≡ status_answer None (run_status end) (run_line end) =
    says None ∙ answer_status-run_end None last end ran.end in
    record {
      ran = record {
        run = record {
          events = ran.events;
          at = ran.at;
          runs = subst (λ (g : Program). Runs g (begins (start g)) ran.events ran.at) same first;
          made = record { most = omega (arith, ran.used); full = λ none. ran.full (ran.end ∙ ap ended_by none) };
        };
        answers = ran.fed.answers;
      };
      status_is = ap (λ (a : Answer). but_drawn a.status) e ∙ but_drawn-run_status end;
      no_more = ap (λ (a : Answer). a.output) e;
      line_is = ap (λ (a : Answer). a.line) e;
      put = ran.wrote;
      noted = ran.noted;
    }

-- ---- a decision that is delivered

-- the output was o and p and is q, the notes were x and y and are z
module _ {K N : Type 0} (k : Ghosts K) (n : Ghosts N) (o p q : K) (x y z : N) (c : Call) (decision : Decision)
    (status : Status) (is : status ≡ decision.status)
    (puts : Puts (sink_change k p q) decision.output) (lines : Puts (sink_change n y z) decision.line) where
  abbrev whole : Call
  whole = record c { out = sink_change k o q; notes = sink_change n x z }

  shows_run : (options : RunOptions) (image : Parts)
      → DecidesRun options image decision c.input (sink_change k o p) (sink_change n x y)
      → ShowsRun options image status whole
  shows_run options image d =
      let events = d.ran.run.events in
      record {
        ran = d.ran;
        status_is = ap but_drawn is ∙ d.status_is;
        put =
            subst (Puts (sink_change k o q))
            (ap (λ (l : List ℕ). output events ++ l) d.no_more ∙ append-nil (output events))
            (Puts-then (k.written o) (k.written p) (k.written q) (k.faults o) (k.faults p) (k.faults q)
            (output events) decision.output d.put puts);
        noted = subst (λ (l : List ℕ). Puts (sink_change n x z) (notes options.watch events ++ l)) d.line_is
            (Puts-then (n.written x) (n.written y) (n.written z) (n.faults x) (n.faults y) (n.faults z)
            (notes options.watch events) decision.line d.noted lines);
      }

  shows_done : (text : List ℕ) → DecidesDone text decision (sink_change k o p) (sink_change n x y)
      → ShowsDone text status whole
  shows_done text d = record {
    status_is = is ∙ d.status_is;
    put =
        subst (Puts (sink_change k o q)) d.output_is
        (Puts-then (k.written o) (k.written p) (k.written q) (k.faults o) (k.faults p) (k.faults q)
        d.front decision.output d.put puts);
    noted =
        subst (Puts (sink_change n x z)) d.line_is
        (Puts-then (n.written x) (n.written y) (n.written z) (n.faults x) (n.faults y) (n.faults z)
        [] decision.line d.noted lines);
  }

  shows_of : (command : ImageCommand) (image : Parts)
      → DecidesOf command image decision c.input (sink_change k o p) (sink_change n x y)
      → ShowsOf command image status whole
  shows_of images.Check image d = tt
  shows_of images.Dis image d = shows_done (listing image) d
  shows_of images.Debug image d = record {
    session = d.session;
    status_is = is ∙ d.status_is;
    put =
        subst (Puts (sink_change k o q))
        (ap (λ (l : List ℕ). d.session.told.text ++ l) d.no_more ∙ append-nil d.session.told.text)
        (Puts-then (k.written o) (k.written p) (k.written q) (k.faults o) (k.faults p) (k.faults q)
        d.session.told.text decision.output d.put puts);
    noted = subst (Puts (sink_change n x z)) d.line_is
        (Puts-then (n.written x) (n.written y) (n.written z) (n.faults x) (n.faults y) (n.faults z)
        [] decision.line d.noted lines);
  }

  shows_imprecise : (options : RunOptions) (plan : Plan)
      → DecidesImprecise options plan decision c.input (sink_change k o p) (sink_change n x y)
      → ShowsImprecise options plan status whole
  shows_imprecise options plan d =
      let events = seen d.ran.run.steps in
      record {
        ran = d.ran;
        status_is = is ∙ d.status_is;
        put =
            subst (Puts (sink_change k o q))
            (ap (λ (l : List ℕ). output events ++ l) d.no_more ∙ append-nil (output events))
            (Puts-then (k.written o) (k.written p) (k.written q) (k.faults o) (k.faults p) (k.faults q)
            (output events) decision.output d.put puts);
        noted = subst (λ (l : List ℕ). Puts (sink_change n x z) (notes options.watch events ++ l)) d.line_is
            (Puts-then (n.written x) (n.written y) (n.written z) (n.faults x) (n.faults y) (n.faults z)
            (notes options.watch events) decision.line d.noted lines);
      }

  shows_record : (options : RunOptions) (force : Bool) (plan : Plan) (journal : Journal)
      → DecidesRecord options force plan journal decision c.input (sink_change k o p) (sink_change n x y)
      → ShowsRecord options force plan journal status whole
  shows_record options force plan journal d =
      let events = seen d.ran.run.steps in
      record {
        accepted = d.accepted;
        ran = d.ran;
        status_is = is ∙ d.status_is;
        put =
            subst (Puts (sink_change k o q))
            (ap (λ (l : List ℕ). output events ++ l) d.no_more ∙ append-nil (output events))
            (Puts-then (k.written o) (k.written p) (k.written q) (k.faults o) (k.faults p) (k.faults q)
            (output events) decision.output d.put puts);
        noted = subst (λ (l : List ℕ). Puts (sink_change n x z) (notes false events ++ l)) d.line_is
            (Puts-then (n.written x) (n.written y) (n.written z) (n.faults x) (n.faults y) (n.faults z)
            (notes false events) decision.line d.noted lines);
      }

  shows_plan : (options : RunOptions) (force : Bool) (plan : Plan)
      → DecidesPlan options force plan decision c.input (sink_change k o p) (sink_change n x y)
      → ShowsPlan options force plan status whole
  shows_plan options false plan d = (d.0, shows_run options plan.image d.1)
  shows_plan options true plan d =
      (shows_imprecise options plan d.0, λ accepted. shows_run options plan.image (d.1 accepted))

  pub shows_asked : (command : Command)
      → DecidesAsked command decision c.shelf c.input (sink_change k o p) (sink_change n x y)
      → ShowsAsked command status whole
  shows_asked (of_image command name) h =
      record { image = h.image; good = h.good; read = h.read; told = h.told; has = shows_of command h.image h.has }
  shows_asked (replay name journal) h = record {
    image = h.image;
    listed = h.listed;
    answer = h.answer;
    middle = h.middle;
    good = h.good;
    read = h.read;
    is_journal = h.is_journal;
    read_journal = h.read_journal;
    replays = h.replays;
    runs = h.runs;
    alike = h.alike;
    has = shows_done (replay_line h.answer.units h.answer.reports) h.has;
  }
  shows_asked (run options name) h =
      record { image = h.image; good = h.good; read = h.read; told = h.told; has = shows_run options h.image h.has }
  shows_asked (imprecise options choices force name) h =
      record { plan = h.plan; is = h.is; told = h.told; has = shows_plan options force h.plan h.has }
  shows_asked (record_run options choices force name made) h = λ ends.
      let r = h (subst (IsEndStatus true) is ends) in record {
        plan = r.plan;
        journal = r.journal;
        middle = r.middle;
        is = r.is;
        told = r.told;
        good = r.good;
        kept = r.kept;
        has = shows_record options force r.plan r.journal r.has;
      }
  shows_asked (make what name made) h = tt
  shows_asked (link entry made names) h = tt
  shows_asked (trial blocks) h = tt

-- ---- of a plan

-- what was decided of a plan that was read is so of the files'
pub IfOk-ReadsPlan : {H : Type 0} (h : shelves.Ghosts H) (old middle new : H) (name : List ℕ) (choices : Origin)
    (force : Bool) (plan : Plan) (r : Result Decision Failed) (P : Plan → Decision → Type 0)
    → IsPlanRead (h.replies old) (h.replies middle) choices name plan
    → Planned choices force name (h.files old) (continues plan) → new ≡ middle
    → IfOk r (P plan) → IfOk r (λ d. ReadsPlan (shelf_change h old new) choices name (λ p. P p d))
IfOk-ReadsPlan h old middle new name choices force plan r P read found same did =
    IfOk-more r (λ d has. record {
      plan = plan;
      is =
          subst (λ (s : List Reply). IsPlanRead (h.replies old) s choices name plan) (ap h.replies (sym same)) read;
      told = (let (bytes, there, spelt) = planned_image force choices name (h.files old) plan found in
          subst (HasFile (h.files old) name) spelt.1 there.0);
      has = has;
    }) did

-- and where a journal was kept behind it
pub IfOk-ReadsAndKeeps : {H : Type 0} (h : shelves.Ghosts H) (old middle new : H) (name out : List ℕ) (choices : Origin)
    (force : Bool) (plan : Plan) (r : Result Decision Failed) (P : Plan → Journal → Decision → Type 0)
    → IsPlanRead (h.replies old) (h.replies middle) choices name plan
    → Planned choices force name (h.files old) (continues plan)
    → IfOk r (λ d. IsEndStatus true d.status → (p : Journal) × IsJournal p
    × (h.replies new ≡ h.replies middle ++ Kept out (journals.spelling p) true ∷ []) × P plan p d)
    → IfOk r (λ d. IsEndStatus true d.status
    → ReadsAndKeeps (shelf_change h old new) choices name out (λ p journal. P p journal d))
IfOk-ReadsAndKeeps h old middle new name out choices force plan r P read found did =
    IfOk-more r (λ d has ends. let (p, good, kept, ran) = has ends in record {
      plan = plan;
      journal = p;
      middle = h.replies middle;
      is = read;
      told = (let (bytes, there, spelt) = planned_image force choices name (h.files old) plan found in
          subst (HasFile (h.files old) name) spelt.1 there.0);
      good = good;
      kept = kept;
      has = ran;
    }) did

all_ok : {T E : Type 0} (r : Result T E) → IfOk r (λ v. Unit {0})
all_ok (Ok v) = tt
all_ok (Err e) = tt

-- nothing is said of the other commands
pub WhereEnded-other_command : (r : Result Decision Failed) → WhereEnded r (λ decision. Unit {0})
WhereEnded-other_command r = λ ends. all_ok r

-- ---- of a call

-- the output was o and p and is q, the notes were x and y and are z
pub ShowsAsked-call : {K N : Type 0} (k : Ghosts K) (n : Ghosts N) (o p q : K) (x y z : N) (words : List (List ℕ))
    (c : Call)
    (decision : Decision) (status : Status)
    → (status ≡ SinkFault) ⊎ (status ≡ decision.status)
    → (status ≢ SinkFault → Puts (sink_change k p q) decision.output)
    → (status ≢ SinkFault → Puts (sink_change n y z) decision.line)
    → ((command : Command) → AsksFor words command
    → WhereEnded (Ok decision) (λ d. DecidesAsked command d c.shelf c.input (sink_change k o p) (sink_change n x y)))
    → (command : Command) → AsksFor words command → HasEnded status
    → ShowsAsked command status (record c { out = sink_change k o q; notes = sink_change n x z })
ShowsAsked-call k n o p q x y z words c decision status (inl e) puts lines did =
    λ command asks ends. absurd (HasEnded-not_SinkFault (subst HasEnded e ends))
ShowsAsked-call k n o p q x y z words c decision status (inr e) puts lines did = λ command asks ends.
    let calm : status ≢ SinkFault = λ f. HasEnded-not_SinkFault (subst HasEnded f ends) in
    shows_asked k n o p q x y z c decision status e (puts calm) (lines calm) command
    (did command asks (subst HasEnded e ends))

-- of plain words
pub RunsAsked-Ran : (words : List (List ℕ)) (status : Status) (c : Call) → RunsAsked words status c → Ran words status c
RunsAsked-Ran words status c h name plain = (
  λ is. let r = h (run defaults name) (ap asked is ∙ plain_run name plain) in record {
    shows =
        λ ends. let s = r.shows (IsRunEnd-HasEnded status ends) in
        record { image = s.image; good = s.good; read = s.read; told = s.told; has = (tt, s.has) };
    ends = r.ends;
  },
  λ is. let r = h (imprecise defaults (seed 0) false name) (ap asked is ∙ plain_imprecise name plain) in record {
    shows =
        λ ends. let s = r.shows (IsRunEnd-HasEnded status ends) in
        let read = seeded_read c.shelf.past c.shelf.history (seed 0) name s.plan 0 refl s.is in
        record { image = s.plan.image; good = read.0; read = read.1; told = s.told; has = s.has };
    ends = λ image good accepted read. r.ends (seed_plan image 0) (λ judges. accepted)
        (seed_plan-read c.shelf.past c.shelf.history name image 0 good read);
  },
)

-- of a listing
pub RunsAsked-Listed : (words : List (List ℕ)) (status : Status) (c : Call) → RunsAsked words status c
    → Listed words status c
RunsAsked-Listed words status c h name asks =
    let r = h (dis name) (asked_rows words (dis name) asks) in
    record { shows = λ done. r.shows (inl (ap class_of done)); ends = r.ends }
