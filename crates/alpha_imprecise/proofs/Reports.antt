-- What the handler finds directly after an arithmetic entry, and what a report leaves.
use Rattle.std.proofs.Common.{◌≡◌, ◌<◌, ◌≤◌, ◌+◌, ◌-◌, ◌*◌, ◌%◌, ◌^◌, ℕ, Bool, true, false, cond, List, length, Option}
use Rattle.std.proofs.Common.{None, Some, refl, sym, ap, subst, ◌∙◌, arith}
use Rattle.std.specs.Option.{option_map}
use Rattle.alpha_words.specs.declared.Completion.{Completion}
use Rattle.alpha_table.specs.Code.{class_at}
use Rattle.alpha_values.specs.TrapOp.{stops}
use Rattle.alpha_pal.specs.Kernel.{KernelState, arith_frame, arith_regs, entered}
use Rattle.alpha_image.specs.Parts.{Parts}
use Rattle.alpha_seq.specs.declared.end.End.TheVariants as ends
use Rattle.alpha_seq.specs.declared.event.Event.{Event}
use Rattle.alpha_seq.specs.declared.event.Event.TheVariants as events
use Rattle.alpha_seq.specs.declared.machine.Machine.{Machine}
use Rattle.alpha_seq.specs.State.{State, Ends}
use Rattle.alpha_seq.specs.Machine.{program_of, state_of}
use Rattle.alpha_trap.specs.declared.handler.Lost.{Lost}
use Rattle.alpha_trap.specs.Scan.{scan}
use Rattle.alpha_trap.specs.Handler.{Handled, handled, handled_at, going_on, reported, mask_in, trap_in, place_of_trap}
use Rattle.alpha_trap.specs.Completed.{completed_regs}
use Rattle.alpha_trap.proofs.HandlerEffect.{mask_in-entry, handled-entry}
use Rattle.alpha_imprecise.specs.StepResult.{Trap, StepResult, Precisely, Reported, Lost as IsLost, step_result}
use Rattle.alpha_imprecise.specs.Step.{address_at, completed}
use Rattle.alpha_imprecise.proofs.ReportLandings.{report_at}
use Rattle.alpha_imprecise.specs.declared.pending.Pending.{Pending}
use Rattle.alpha_imprecise.specs.Chosen.{reporting}
use Rattle.alpha_imprecise.specs.ImpreciseState.{imprecise_state, trap_of, returned_kernel}
use Rattle.alpha_imprecise.specs.ImpreciseStepEffect.{StepsAs}
use Rattle.alpha_imprecise.proofs.ChoicesMade.{report-steps}
use Rattle.alpha_imprecise.specs.Report.{Reports, handler_trap, landing_at, answer_at, machine_at}

-- the report of the definition
pub handled-reported : (image : Parts) (completion : Completion) (pc mask : ℕ) (regs live : List ℕ)
    (kernel : KernelState) (h : Handled)
    → length regs ≡ 32 → mask < 2 ^ 31 → kernel ≡ entered (arith_frame pc regs) regs → live ≡ arith_regs regs mask
    → handled image completion kernel live ≡ Some h → reported image completion pc mask regs ≡ Some h
handled-reported image completion pc mask regs live kernel h sized small is_kernel is_live e =
    sym (handled-entry image completion pc mask regs sized small)
    ∙ (sym (ap (λ k. handled image completion k (arith_regs regs mask)) is_kernel)
    ∙ (sym (ap (λ l. handled image completion kernel l) is_live) ∙ e))

-- a trap that is lost is one for which the scan finds nothing
pub scan-lost : (image : Parts) (pc mask : ℕ) (regs live : List ℕ) (kernel : KernelState) (lost : Lost)
    → length regs ≡ 32 → mask < 2 ^ 31 → kernel ≡ entered (arith_frame pc regs) regs → live ≡ arith_regs regs mask
    → lost ≡ trap_in kernel live → place_of_trap image lost ≡ None → scan image pc mask ≡ None
scan-lost image pc mask regs live kernel lost sized small is_kernel is_live is_lost e =
    sym (ap (λ m. scan image pc m) (mask_in-entry regs mask sized small))
    ∙ (sym (ap (λ (k : KernelState). scan image k.frame.pc (mask_in (arith_regs regs mask))) is_kernel)
    ∙ (sym (ap (λ l. scan image kernel.frame.pc (mask_in l)) is_live)
    ∙ (sym (ap (place_of_trap image) is_lost) ∙ e)))

-- and the handler has its PC and its mask
pub trap_in-handler_trap : (pc mask : ℕ) (regs live : List ℕ) (kernel : KernelState) (lost : Lost)
    → length regs ≡ 32 → mask < 2 ^ 31 → kernel ≡ entered (arith_frame pc regs) regs → live ≡ arith_regs regs mask
    → lost ≡ trap_in kernel live → lost ≡ handler_trap pc mask
trap_in-handler_trap pc mask regs live kernel lost sized small is_kernel is_live is_lost =
    is_lost
    ∙ (ap (λ (k : KernelState). trap_in k live) is_kernel
    ∙ (ap (λ (l : List ℕ). trap_in (entered (arith_frame pc regs) regs) l) is_live
    ∙ ap (λ (m : ℕ). handler_trap pc m) (mask_in-entry regs mask sized small)))

-- ---- the state that a report leaves

pub record Scanned (image : Parts) (completion : Completion) (pc mask : ℕ) (regs : List ℕ) (h : Handled) : Type 0 where
  pub at : ℕ
  pub scans : scan image pc mask ≡ Some at
  pub is : handled_at image completion regs at ≡ h

scanned_by : (image : Parts) (completion : Completion) (pc mask : ℕ) (regs : List ℕ) (h : Handled) (found : Option ℕ)
    → scan image pc mask ≡ found → option_map (handled_at image completion regs) found ≡ Some h
    → Scanned image completion pc mask regs h
scanned_by image completion pc mask regs h None scans e = absurd cc
scanned_by image completion pc mask regs h (Some at) scans e =
    record { at = at; scans = scans; is = let same : handled_at image completion regs at ≡ h = cc in same }

pub reported-Scanned : (image : Parts) (completion : Completion) (pc mask : ℕ) (regs : List ℕ) (h : Handled)
    → reported image completion pc mask regs ≡ Some h → Scanned image completion pc mask regs h
reported-Scanned image completion pc mask regs h e =
    scanned_by image completion pc mask regs h (scan image pc mask) refl e

stop_at : (image : Parts) (completion : Completion) (regs : List ℕ) (at : ℕ) → stops completion ≡ true
    → handled_at image completion regs at ≡ going_on (image.code_base + 4 * at) regs
stop_at image completion regs at e = rw e refl

goes_at : (image : Parts) (completion : Completion) (regs : List ℕ) (at : ℕ) → stops completion ≡ false
    → handled_at image completion regs at
    ≡ going_on (image.code_base + 4 * at + 4) (completed_regs completion (class_at image.words at) regs)
goes_at image completion regs at e = rw e refl

-- an address behind a word is no less than 4
pub Scanned-pc_bound : (image : Parts) (completion : Completion) (pc mask : ℕ) (regs : List ℕ) (h : Handled)
    → Scanned image completion pc mask regs h → stops completion ≡ false → 4 ≤ h.pc
Scanned-pc_bound image completion pc mask regs h found e =
    let same : image.code_base + 4 * found.at + 4 ≡ h.pc =
    ap (λ (x : Handled). x.pc) (sym (goes_at image completion regs found.at e) ∙ found.is) in
    omega arith

-- the machine after the handler
abbrev handled_machine : Machine → Handled → Machine
handled_machine m h = record m { regs = h.regs; kernel = returned_kernel h.pc h.regs }

abbrev stopped_on_overflow : Machine → State → ℕ → StepResult
stopped_on_overflow m s at =
    step_result (record s { pc = address_at m.image at }) None
    (Precisely (Ends (ends.Overflow (address_at m.image at))))

landed_by : (m : Machine) (t : Trap) (h : Handled) (b : Bool) → stops m.completion ≡ b
    → Scanned m.image m.completion m.pc t.mask m.regs h
    → Reports (landing_at b h.pc) None t m (machine_at b (handled_machine m h) h.pc)
landed_by m t h true stopping found =
    let same = sym (stop_at m.image m.completion m.regs found.at stopping) ∙ found.is in
    record {
      is = ap (report_at (program_of m) (state_of m) t) found.scans
          ∙ (ap (λ (b : Bool). cond b (stopped_on_overflow m (state_of m) found.at)
          (step_result (completed (program_of m) (state_of m) found.at) None (Reported (address_at m.image found.at))))
          stopping
          ∙ ap (λ (x : Handled). step_result (state_of (record m { regs = x.regs; pc = x.pc })) None
          (Precisely (Ends (ends.Overflow x.pc)))) same);
      program = refl;
      memory = refl;
      kernel = refl;
    }
landed_by m t h false going found =
    let same = sym (goes_at m.image m.completion m.regs found.at going) ∙ found.is in
    let back : address_at m.image found.at + 4 - 4 ≡ address_at m.image found.at = omega arith in
    record {
      is = ap (report_at (program_of m) (state_of m) t) found.scans
          ∙ (ap (λ (b : Bool). cond b (stopped_on_overflow m (state_of m) found.at)
          (step_result (completed (program_of m) (state_of m) found.at) None (Reported (address_at m.image found.at))))
          going
          ∙ (ap (λ (n : ℕ).
          step_result (record (completed (program_of m) (state_of m) found.at) { logged = n }) None (Reported n))
          (sym back)
          ∙ ap (λ (x : Handled). step_result (state_of (record m {
            regs = x.regs;
            pc = x.pc;
            lock = None;
            overflows = (m.overflows + 1) % 2 ^ 64;
            last = x.pc - 4;
          })) None (Reported (x.pc - 4))) same));
      program = refl;
      memory = refl;
      kernel = refl;
    }

-- the program goes on or stops with the kernel that the handler left
pub landed-kernel : (b : Bool) (mid : Machine) (pc : ℕ) → (machine_at b mid pc).kernel ≡ mid.kernel
landed-kernel true mid pc = refl
landed-kernel false mid pc = refl

-- the step that such a report is
landed_as : (m new : Machine) (trap : Pending) (pc : ℕ) (b : Bool) → Reports (landing_at b pc) None (trap_of trap) m new
    → StepsAs (answer_at b pc) (imprecise_state m (Some trap)) (imprecise_state new None) (reporting 0).choice
landed_as m new trap pc true reports =
    let h = landing_at true pc in
    record {
      last_event = h;
      event_is = refl;
      still = refl;
      steps = report-steps h m new trap None reports refl reports.kernel;
    }
landed_as m new trap pc false reports =
    let h = landing_at false pc in
    record {
      last_event = h;
      event_is = refl;
      still = tt;
      steps = report-steps h m new trap None reports refl reports.kernel;
    }

-- the report, by what the handler and the code behind it did
pub landed-handled : (m mid new : Machine) (trap : Pending) (pc : ℕ) (answer : Event)
    → reported m.image m.completion m.pc trap.mask m.regs ≡ Some (going_on pc mid.regs)
    → mid ≡ record m { regs = mid.regs; kernel = returned_kernel pc mid.regs }
    → answer ≡ answer_at (stops mid.completion) pc → new ≡ machine_at (stops mid.completion) mid pc
    → StepsAs answer (imprecise_state m (Some trap)) (imprecise_state new None) (reporting 0).choice
landed-handled m mid new trap pc answer found is_mid is_answer is_new =
    let h = going_on pc mid.regs in
    let t = trap_of trap in
    let how_same : mid.completion ≡ m.completion = ap (λ (x : Machine). x.completion) is_mid in
    let answers : answer ≡ answer_at (stops m.completion) pc =
    is_answer ∙ ap (λ how. answer_at (stops how) pc) how_same in
    let ends_at : new ≡ machine_at (stops m.completion) (handled_machine m h) pc =
    is_new ∙ (ap (λ how. machine_at (stops how) mid pc) how_same
    ∙ ap (λ (x : Machine). machine_at (stops m.completion) x pc) is_mid) in
    let by =
    landed_by m t h (stops m.completion) refl (reported-Scanned m.image m.completion m.pc t.mask m.regs h found) in
    subst (λ (a : Event). StepsAs a (imprecise_state m (Some trap)) (imprecise_state new None) (reporting 0).choice)
    (sym answers)
    (landed_as m new trap pc (stops m.completion)
    (subst (λ (x : Machine). Reports (landing_at (stops m.completion) pc) None t m x) (sym ends_at) by))

-- a trap that is lost
pub lost-handled : (m new : Machine) (trap : Pending) (lost : Lost) → scan m.image m.pc trap.mask ≡ None
    → lost ≡ handler_trap m.pc trap.mask
    → new ≡ record m { kernel = returned_kernel m.pc m.regs }
    → StepsAs (events.Lost lost.trap_pc lost.mask) (imprecise_state m (Some trap)) (imprecise_state new (Some trap))
    (reporting 0).choice
lost-handled m new trap lost none is_lost is_new =
    let t = trap_of trap in
    let behind = record m { kernel = returned_kernel m.pc m.regs } in
    let h = IsLost m.pc t.mask in
    let reports : Reports h (Some t) t m behind = record {
      is = ap (report_at (program_of m) (state_of m) t) none;
      program = refl;
      memory = refl;
      kernel = refl;
    } in
    let steps : StepsAs (events.Lost m.pc t.mask) (imprecise_state m (Some trap)) (imprecise_state behind (Some trap))
    (reporting 0).choice =
    record {
      last_event = h;
      event_is = refl;
      still = tt;
      steps = report-steps h m behind trap (Some trap) reports refl refl;
    } in
    subst (λ (l : Lost). StepsAs (events.Lost l.trap_pc l.mask)
    (imprecise_state m (Some trap)) (imprecise_state new (Some trap)) (reporting 0).choice)
    (sym is_lost)
    (subst (λ (x : Machine). StepsAs (events.Lost m.pc t.mask)
    (imprecise_state m (Some trap)) (imprecise_state x (Some trap)) (reporting 0).choice)
    (sym is_new) steps)
