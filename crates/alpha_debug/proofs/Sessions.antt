-- What commands do to a session, one after another.
use Rattle.std.specs.Prelude.{◌==◌}
use Rattle.std.proofs.Common.{◌≡◌, ◌∙◌, ℕ, codes, length, Bool, true, false, cond, List, [], ◌∷◌, ◌++◌, Option, Some}
use Rattle.std.proofs.Common.{None, ◌⊎◌, inl, inr, refl, sym, ap, subst, append_assoc, append-nil}
use Rattle.alpha_seq.specs.declared.end.End.{End}
use Rattle.alpha_seq.specs.declared.machine.Machine.{Machine}
use Rattle.alpha_seq.specs.State.{State}
use Rattle.alpha_seq.specs.Machine.{program_of, state_of}
use Rattle.arrayvec.specs.ArrayVec.{ArrayVec}
use Rattle.alpha_words.specs.declared.Completion.TheVariants.{Wrap}
use Rattle.alpha_pal.specs.Kernel.{KernelState, new_kernel}
use Rattle.alpha_image.specs.Parts.{Parts}
use Rattle.alpha_shadow.specs.declared.broken.Broken.{Broken}
use Rattle.alpha_seq.specs.Start.{start}
use Rattle.alpha_debug.specs.declared.command.Command.{Command}
use Rattle.alpha_debug.specs.declared.command.Command.TheVariants.{Nothing, Step, Go, Barrier, Break, Clear, Registers}
use Rattle.alpha_debug.specs.declared.command.Command.TheVariants.{Memory, Listing, Shadow, Log, Quit, Unknown}
use Rattle.alpha_debug.specs.declared.watcher.Until.{Until}
use Rattle.alpha_debug.specs.declared.watcher.Until.TheVariants as until
use Rattle.alpha_debug.specs.declared.debugger.Debugger.{Debugger}
use Rattle.alpha_debug.specs.Command.{most_steps}
use Rattle.alpha_debug.specs.Lines.{ended, where_line}
use Rattle.alpha_debug.specs.Session.{Setting, Session, IsVerdict, text_of, with_text, step_until, if_going}
use Rattle.alpha_debug.specs.Session.{if_not_ended}
use Rattle.alpha_debug.specs.Session.{with_where_line, continue_until, has_point, most_points, ok, is_shown, shown}
use Rattle.alpha_debug.specs.Session.{answer}
use Rattle.alpha_debug.specs.OutputChange.{output_change_by, AppendsOutput, SinkFailsWith}
use Rattle.alpha_debug.specs.Effects.{Grows, session_of, with_block, IsOpened, SessionEffect, Fails, IsQuiet}
use Rattle.alpha_debug.proofs.SinkEffects.{Grows-same, Grows-by, Grows-trans, FailsBehind-after, AppendsOutput-both}
use Rattle.alpha_debug.proofs.DebuggerSteps.{step_until-grows}

-- ---- what is said

-- ---- what is written stays

if_not_ended-grows : (g : Setting) (wanted : Until) (most : ℕ) (s : Session) (end : Option End)
    → Grows (text_of s) (text_of (if_going end s (step_until g.program wanted s.points most s.state s.text)))
if_not_ended-grows g wanted most s None = step_until-grows g.program wanted s.points most s.state s.text
if_not_ended-grows g wanted most s (Some end) = Grows-same (text_of s)

with_where_line-grows : (s : Session) → Grows (text_of s) (text_of (with_where_line s))
with_where_line-grows s = Grows-by (text_of s) (where_line s.end s.state.pc)

continue_until-grows : (g : Setting) (wanted : Until) (most : ℕ) (s : Session)
    → Grows (text_of s) (text_of (continue_until g wanted most s))
continue_until-grows g wanted most s =
    let t : Session = if_not_ended g wanted most s in
    Grows-trans (text_of s) (text_of t) (text_of (with_where_line t)) (if_not_ended-grows g wanted most s s.end)
    (with_where_line-grows t)

adding-by : (b c : Bool) (s x y z : Session) → Grows (text_of s) (text_of x) → Grows (text_of s) (text_of y)
    → Grows (text_of s) (text_of z) → Grows (text_of s) (text_of (cond b x (cond c y z)))
adding-by true c s x y z p q r = p
adding-by false true s x y z p q r = q
adding-by false false s x y z p q r = r

pub answer-grows : (g : Setting) (command : Command) (s : Session) → Grows (text_of s) (text_of (answer g command s))
answer-grows g Nothing s = Grows-same (text_of s)
answer-grows g (Step n) s = continue_until-grows g until.Spent n s
answer-grows g Go s = continue_until-grows g until.Breakpoint most_steps s
answer-grows g Barrier s = continue_until-grows g until.Barrier most_steps s
answer-grows g (Break at) s =
    adding-by (has_point s.points at) (length s.points == most_points) s (with_text s ok)
    (with_text s (ended (codes "full")))
    (with_text (record s { points = s.points ++ at ∷ [] }) ok)
    (Grows-by (text_of s) ok) (Grows-by (text_of s) (ended (codes "full"))) (Grows-by (text_of s) ok)
answer-grows g (Clear at) s = Grows-by (text_of s) _
answer-grows g Quit s = Grows-same (text_of s)
answer-grows g (Memory at count) s = Grows-by (text_of s) _
answer-grows g command s = Grows-by (text_of s) _

-- ---- steps, and the place

module _ {K : Type 0} (written : K → Option (List ℕ)) (faults : K → ℕ) (o p q : K × List ℕ)
    (becomes : Session → Session) (old new : Debugger) where
  pub where_line_put : SessionEffect becomes old new (output_change_by written faults o p)
      → AppendsOutput (output_change_by written faults p q) (where_line new.end new.machine.pc)
      → SessionEffect (λ s. with_where_line (becomes s)) old (with_block new q.1) (output_change_by written faults o q)
  where_line_put makes wrote = record {
    bytes = makes.bytes ++ where_line new.end new.machine.pc;
    wrote = AppendsOutput-both written faults o p q makes.bytes (where_line new.end new.machine.pc) makes.wrote wrote;
    is = λ text.
        ap with_where_line (makes.is text)
        ∙ ap (λ (l : List ℕ). session_of new l) (append_assoc text makes.bytes (where_line new.end new.machine.pc));
  }

  pub where_fails : SessionEffect becomes old new (output_change_by written faults o p)
      → SinkFailsWith (output_change_by written faults p q) (where_line new.end new.machine.pc)
      → Fails (λ s. with_where_line (becomes s)) old (output_change_by written faults o q)
  where_fails makes stops text =
      FailsBehind-after written faults o p q makes.bytes text
      (text_of (with_where_line (becomes (session_of old text)))) makes.wrote
      (record {
        bytes = where_line new.end new.machine.pc;
        is = ap (λ (s : Session). text_of (with_where_line s)) (makes.is text);
        stops = stops;
      })

  -- what waits was put
  pub then_put : SessionEffect becomes old new (output_change_by written faults o p)
      → AppendsOutput (output_change_by written faults p q) []
      → SessionEffect becomes old (with_block new q.1) (output_change_by written faults o q)
  then_put makes wrote = record {
    bytes = makes.bytes;
    wrote =
        subst (AppendsOutput (output_change_by written faults o q)) (append-nil makes.bytes)
        (AppendsOutput-both written faults o p q makes.bytes [] makes.wrote wrote);
    is = makes.is;
  }

  pub then_fails : SessionEffect becomes old new (output_change_by written faults o p)
      → SinkFailsWith (output_change_by written faults p q) [] → Fails becomes old (output_change_by written faults o q)
  then_fails makes stops text =
      FailsBehind-after written faults o p q makes.bytes text
      (text_of (becomes (session_of old text))) makes.wrote
      (record {
        bytes = [];
        is = ap text_of (makes.is text) ∙ sym (append-nil (text ++ makes.bytes));
        stops = stops;
      })

-- ---- commands

answer-shown : (g : Setting) (command : Command) (s : Session) → is_shown command ≡ true
    → answer g command s ≡ with_text s (shown g command s.state)
answer-shown g Nothing s e = absurd cc
answer-shown g (Step n) s e = absurd cc
answer-shown g Go s e = absurd cc
answer-shown g Barrier s e = absurd cc
answer-shown g (Break at) s e = absurd cc
answer-shown g (Clear at) s e = absurd cc
answer-shown g Quit s e = absurd cc
answer-shown g Registers s e = refl
answer-shown g (Memory at count) s e = refl
answer-shown g (Listing at count) s e = refl
answer-shown g Shadow s e = refl
answer-shown g Log s e = refl
answer-shown g Unknown s e = refl

-- ---- what is put of it

-- where nothing was seen put, the program puts nothing, and else nothing waits
pub IsQuiet-or_nothing_waits : (has : Bool) (becomes : Session → Session) (old : Debugger) (waits : List ℕ)
    → (has ≡ false → IsQuiet becomes old) → (has ≡ true → waits ≡ []) → IsQuiet becomes old ⊎ (waits ≡ [])
IsQuiet-or_nothing_waits true becomes old waits quiet empty = inr (empty refl)
IsQuiet-or_nothing_waits false becomes old waits quiet empty = inl (quiet refl)

-- ---- the start

pub IsOpened-made : (image : Parts) (machine : Machine) (points : ArrayVec ℕ) (block : List ℕ) (verdict : Option Broken)
    → block ≡ [] → program_of machine ≡ record { image = image; completion = Wrap }
    → state_of machine ≡ start (program_of machine) → machine.kernel ≡ new_kernel → points.items ≡ []
    → IsVerdict image.words verdict
    → IsOpened image (record {
      machine = machine;
      verdict = verdict;
      watcher = record { until = until.Spent; points = points; block = block; has_put = false };
      end = None;
    })
IsOpened-made image machine points block verdict empty program starts kernel none verdict_is = record {
  block = empty;
  setting = record { program = program; verdict = verdict_is };
  start =
      ap (λ (st : State). record { state = st; text = []; points = points.items; end = None; over = false }) starts
      ∙ ap
      (λ (l : List ℕ). record { state = start (program_of machine); text = []; points = l; end = None; over = false })
      none;
  mode = ap (λ (k : KernelState). k.user) kernel;
}
