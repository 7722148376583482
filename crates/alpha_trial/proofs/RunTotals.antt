-- What is counted in the code's runs is what the definition's runs show.
use Rattle.std.proofs.Common.{◌≡◌, ◌≤◌, ◌<◌, ◌-◌, ◌++◌, ◌^◌, ℕ, false, List, [], length, Option, Some, None, sym, ap}
use Rattle.std.proofs.Common.{◌∙◌, arith}
use Rattle.std.specs.Io.KnownBytes.{Appends}
use Rattle.alpha_io.specs.SinkChange.{SinkChange}
use Rattle.alpha_image.specs.Parts.{Parts}
use Rattle.alpha_seq.specs.declared.machine.Machine.{Machine}
use Rattle.alpha_seq.specs.declared.event.Event.{Event}
use Rattle.alpha_seq.specs.State.{Program, State}
use Rattle.alpha_seq.specs.Start.{start}
use Rattle.alpha_seq.specs.Run.{output, after}
use Rattle.alpha_seq.specs.Machine.{program_of, state_of}
use Rattle.alpha_seq.specs.Devices.{Drawn}
use Rattle.alpha_imprecise.specs.declared.pending.Pending.{Pending}
use Rattle.alpha_imprecise.specs.Pcg.{pcg_word, seeded}
use Rattle.alpha_imprecise.specs.Run.{seen}
use Rattle.alpha_imprecise.specs.ChosenRun.{ChosenRun, begun, chosen_run, first_words, most_words}
use Rattle.alpha_imprecise.specs.Oracle.{Oracle}
use Rattle.alpha_imprecise.specs.ImpreciseState.{ImpreciseState, trap_in, waited_in, begun_at}
use Rattle.alpha_imprecise.proofs.FreshRuns.{OracleDraws-Starts}
use Rattle.alpha_run.specs.SeqRun.{SeqRan}
use Rattle.alpha_run.specs.ImpreciseRan.{ImpreciseRanAs}
use Rattle.alpha_run.proofs.SeqShown as sequential
use Rattle.alpha_run.proofs.ImpreciseShown as imprecise
use Rattle.alpha_trial.specs.Report.{run_tally, making_tally, wrapping, sequential_run, imprecise_run}
use Rattle.alpha_trial.specs.Counted.{RunsTo, MakesTo}

-- all that a sink has that had nothing before
all_written : (old new : Option (List ℕ)) (put bytes : List ℕ) → old ≡ Some [] → new ≡ Some bytes → Appends old new put
    → put ≡ bytes
all_written None new put bytes from to more = cc
all_written (Some xs) None put bytes from to more = cc
all_written (Some xs) (Some ys) put bytes from to more =
    let none : xs ≡ [] = cc in
    let all : ys ≡ bytes = cc in
    sym (ap (λ (l : List ℕ). l ++ put) none) ∙ (sym more ∙ all)

-- ---- the sequential run

pub runs_to : (last : Option Event) (units left : ℕ) (old new : Machine) (input : Drawn) (out notes : SinkChange)
    (bytes : List ℕ)
    → SeqRan last units left false old new input out notes → input.old.left ≡ Some [] → out.old ≡ Some []
    → out.new ≡ Some bytes
    → RunsTo units old new bytes (units - left)
runs_to last units left old new input out notes bytes ran told from to =
    let fed = ran.fed.told [] told in
    let many : length ran.events ≡ units - left = omega (arith, ran.used) in
    record {
      is =
          ap run_tally (sequential.told_all last units left false old new input out notes ran [] fed.0 fed.1)
          ∙ (ap (λ (s : State).
          record { overflows = s.count; steps = length ran.events; output = output ran.events; drawn = 0 })
          (sym ran.stands)
          ∙ (ap (λ (n : ℕ). record { overflows = new.overflows; steps = n; output = output ran.events; drawn = 0 }) many
          ∙ ap (λ (l : List ℕ). record { overflows = new.overflows; steps = units - left; output = l; drawn = 0 })
          (all_written out.old out.new (output ran.events) bytes from to ran.wrote.written)));
      program = ran.program;
    }

pub sequential_counted : (units : ℕ) (image : Parts) (old new : Machine) (bytes : List ℕ) (steps : ℕ)
    → program_of old ≡ wrapping image → state_of old ≡ start (program_of old) → RunsTo units old new bytes steps
    → run_tally (sequential_run units image)
    ≡ record { overflows = new.overflows; steps = steps; output = bytes; drawn = 0 }
unfolding sequential_run
sequential_counted units image old new bytes steps program begins r =
    ap run_tally (ap (λ (g : Program). after g (start g) [] units) (sym program)
    ∙ ap (λ (s : State). after (program_of old) s [] units) (sym begins))
    ∙ r.is

-- ---- the imprecise run

pub makes_to : (last : Option Event) (units left : ℕ) (old new : ImpreciseState) (before after : Oracle) (input : Drawn)
    (out notes : SinkChange) (bytes : List ℕ) (count : ℕ) (ahead : ℕ → ℕ)
    → ImpreciseRanAs last units left false old new before after input out notes → old.pending ≡ None
    → input.old.left ≡ Some [] → out.old ≡ Some [] → out.new ≡ Some bytes
    → before.ahead ≡ Some ahead → before.count ≡ Some 0 → after.count ≡ Some count
    → MakesTo units ahead old new bytes (units - left) count
makes_to last units left old new before after input out notes bytes count ahead ran calm told from to tells zero now =
    let whole = imprecise.whole_run-ImpreciseRanAs last units left false old new before after input out notes ran in
    let words = whole.ran.words in
    let few = imprecise.few_drawn last units left false old new before after input out notes whole calm in
    let s = OracleDraws-Starts before after ahead words (most_words units) tells whole.ran.drew few in
    let fed = whole.ran.fed.told [] told in
    let there =
    imprecise.told_from last units left false old new before after input out notes whole [] s.coming fed.0 fed.1 in
    let uses = whole.used in
    let many : whole.count ≡ units - left = omega arith in
    record {
      drawn = length words;
      is =
          ap (λ (l : List ℕ). making_tally (chosen_run (program_of old.machine) (begun_at old [] l) units)) s.is
          ∙ (ap making_tally there.1
          ∙ (ap (λ (n : ℕ). record {
            overflows = new.machine.overflows;
            steps = n;
            output = output (seen whole.ran.steps);
            drawn = length words;
          }) many
          ∙ ap (λ (l : List ℕ).
          record { overflows = new.machine.overflows; steps = units - left; output = l; drawn = length words })
          (all_written out.old out.new (output (seen whole.ran.steps)) bytes from to whole.ran.wrote.written)));
      few = few;
      counted =
          imprecise.CountsWords-from_zero before.count after.count count (length words) zero now whole.ran.drew.counted;
      program = whole.ran.program;
    }

pub imprecise_counted : (units : ℕ) (image : Parts) (seed : ℕ) (old new : ImpreciseState) (bytes : List ℕ)
    (used count : ℕ)
    → program_of old.machine ≡ wrapping image → state_of old.machine ≡ start (program_of old.machine)
    → old.pending ≡ None
    → units ≤ 2 ^ 32 → count < 2 ^ 64 → MakesTo units (pcg_word (seeded seed)) old new bytes used count
    → making_tally (imprecise_run units image seed)
    ≡ record { overflows = new.machine.overflows; steps = used; output = bytes; drawn = count }
unfolding imprecise_run
imprecise_counted units image seed old new bytes used count program begins calm few small r =
    let words = first_words (most_words units) (pcg_word (seeded seed)) in
    let begin : begun_at old [] words ≡ begun (start (program_of old.machine)) [] None 0 words =
    ap (λ (p : Option Pending). begun (state_of old.machine) [] (trap_in p) (waited_in p) words) calm
    ∙ ap (λ (s : State). begun s [] None 0 words) begins in
    let low = r.few in
    let modulo = r.counted in
    let drawn : r.drawn ≡ count = omega arith in
    ap making_tally (ap (λ (g : Program). chosen_run g (begun (start g) [] None 0 words) units) (sym program)
    ∙ ap (λ (k : ChosenRun). chosen_run (program_of old.machine) k units) (sym begin))
    ∙ (r.is
    ∙ ap (λ (n : ℕ). record { overflows = new.machine.overflows; steps = used; output = bytes; drawn = n }) drawn)
