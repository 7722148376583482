-- What the word at the PC would do, by the classes of words.
use Rattle.std.proofs.Common.{◌≡◌, ℕ, Bool, true, false, cond, [], Option, None, Some, refl, sym, ap, ◌∙◌}
use Rattle.std.specs.Option.{option_map, option_and_then}
use Rattle.std.specs.Prelude.{is_none}
use Rattle.alpha_words.specs.declared.Completion.{Completion}
use Rattle.alpha_words.specs.declared.Completion.TheVariants.{Wrap, Saturate, Stop}
use Rattle.alpha_table.specs.declared.form.Form.{Form}
use Rattle.alpha_table.specs.Class.{Class, operate, trigger, address, load, store, load_locked, store_conditional}
use Rattle.alpha_table.specs.Class.{branch, jump, barrier, idle}
use Rattle.alpha_table.specs.ClassOf.{class_of}
use Rattle.alpha_values.specs.Source.{source_value}
use Rattle.alpha_values.specs.TrapOp.{overflow_of}
use Rattle.alpha_words.specs.Regs.{reg}
use Rattle.alpha_mem.specs.declared.access.MemFault.{MemFault}
use Rattle.alpha_mem.specs.declared.access.MemFault.TheVariants.{Align, Region}
use Rattle.alpha_mem.specs.Intent.{Load, Store}
use Rattle.alpha_mem.specs.Block.{shapes}
use Rattle.alpha_mem.specs.Fault.{fault_of}
use Rattle.alpha_seq.specs.declared.end.Next.{Next}
use Rattle.alpha_seq.specs.declared.end.Next.TheVariants.{Outside, Barrier, Faults, Overflows, Plain}
use Rattle.alpha_seq.specs.declared.machine.Machine.{Machine}
use Rattle.alpha_seq.specs.State.{Program, State, Stepped}
use Rattle.alpha_seq.specs.Step.{step, unless, overflowed, accessed}
use Rattle.alpha_seq.specs.Next.{next_insn, next_by, next_of, by_class, by_event}
use Rattle.alpha_seq.specs.Machine.{program_of, state_of, class_here}
use Rattle.alpha_seq.proofs.ExecutedInsns.{class_here-insn}
use Rattle.alpha_imprecise.specs.Step.{triggers, can_wait}
use Rattle.alpha_imprecise.specs.ImpreciseState.{WaitsAt}

-- the instruction that can be executed while a trap waits, by what a precise step would do
abbrev pub insn_while_pending : Next → Option Form
insn_while_pending Outside = None
insn_while_pending (Barrier i) = None
insn_while_pending (Faults end) = None
insn_while_pending (Overflows i) = Some i
insn_while_pending (Plain i) = Some i

-- the same, by whether it can be
abbrev form_if : Bool → Form → Option Form
form_if b i = cond b (Some i) None

insn_while_pending-overflowed : (completion : Completion) (s : State) (rc v : ℕ) (i : Form)
    → insn_while_pending (by_event i (overflowed completion s rc v).event) ≡ Some i
insn_while_pending-overflowed Wrap s rc v i = refl
insn_while_pending-overflowed Saturate s rc v i = refl
insn_while_pending-overflowed Stop s rc v i = refl

insn_while_pending-trap : (b : Bool) (x y : Stepped) (i : Form) → insn_while_pending (by_event i x.event) ≡ Some i
    → insn_while_pending (by_event i y.event) ≡ Some i → insn_while_pending (by_event i (cond b x y).event) ≡ Some i
insn_while_pending-trap true x y i p q = p
insn_while_pending-trap false x y i p q = q

insn_while_pending-unless : (fault : Option MemFault) (addr : ℕ) (s after : State) (i : Form)
    → insn_while_pending (by_event i (unless fault addr s after).event) ≡ form_if (is_none fault) i
insn_while_pending-unless None addr s after i = refl
insn_while_pending-unless (Some Align) addr s after i = refl
insn_while_pending-unless (Some Region) addr s after i = refl

insn_while_pending-class : (g : Program) (class : Class) (i : Form) (s : State)
    → insn_while_pending (by_class class i (step g (Some class) s []).event) ≡ form_if (can_wait (Some class) s) i
insn_while_pending-class g (operate op ra src rc) i s = refl
insn_while_pending-class g (trigger op ra src rc) i s =
    insn_while_pending-trap (overflow_of op (reg s.regs ra) (source_value s.regs src)) _ _ i
    (insn_while_pending-overflowed g.completion s rc _ i) refl
insn_while_pending-class g (address op ra rb disp) i s = refl
insn_while_pending-class g (load extension at ra) i s =
    insn_while_pending-unless (fault_of (shapes s.mem) Load (accessed at s) at.bytes) _ s _ i
insn_while_pending-class g (store at ra) i s =
    insn_while_pending-unless (fault_of (shapes s.mem) Store (accessed at s) at.bytes) _ s _ i
insn_while_pending-class g (load_locked extension at ra) i s =
    insn_while_pending-unless (fault_of (shapes s.mem) Load (accessed at s) at.bytes) _ s _ i
insn_while_pending-class g (store_conditional at ra) i s =
    insn_while_pending-unless (fault_of (shapes s.mem) Store (accessed at s) at.bytes) _ s _ i
insn_while_pending-class g (branch condition ra disp) i s = refl
insn_while_pending-class g (jump ra rb) i s = refl
insn_while_pending-class g (barrier call) i s = refl
insn_while_pending-class g idle i s = refl

-- by the instruction at the PC
abbrev waiting_insn : Machine → Option Form → Option Form
waiting_insn m x = option_and_then (λ i. form_if (can_wait (Some (class_of i)) (state_of m)) i) x

insn_while_pending-by : (m : Machine) (x : Option Form)
    → insn_while_pending (next_by (program_of m) x (state_of m) []) ≡ waiting_insn m x
insn_while_pending-by m None = refl
insn_while_pending-by m (Some i) = insn_while_pending-class (program_of m) (class_of i) i (state_of m)

pub insn_while_pending-next : (m : Machine)
    → insn_while_pending (next_of (program_of m) (state_of m) []) ≡ waiting_insn m (next_insn (program_of m) m.pc)
insn_while_pending-next m = insn_while_pending-by m (next_insn (program_of m) m.pc)

some_by : (m : Machine) (i insn : Form) (b : Bool) → class_here m ≡ Some (class_of i)
    → can_wait (Some (class_of i)) (state_of m) ≡ b → form_if b i ≡ Some insn → WaitsAt m (class_of insn)
some_by m i insn true here waits e =
    let same : i ≡ insn = cc in
    record {
      here = here ∙ ap (λ (j : Form). Some (class_of j)) same;
      waits = sym (ap (λ (j : Form). can_wait (Some (class_of j)) (state_of m)) same) ∙ waits;
    }
some_by m i insn false here waits e = absurd cc

some_insn : (m : Machine) (x : Option Form) (insn : Form) → class_here m ≡ option_map class_of x
    → waiting_insn m x ≡ Some insn → WaitsAt m (class_of insn)
some_insn m None insn here e = absurd cc
some_insn m (Some i) insn here e = some_by m i insn (can_wait (Some (class_of i)) (state_of m)) here refl e

none_by : (m : Machine) (i : Form) (b : Bool) → can_wait (Some (class_of i)) (state_of m) ≡ b → form_if b i ≡ None
    → can_wait (Some (class_of i)) (state_of m) ≡ false
none_by m i true waits e = absurd cc
none_by m i false waits e = waits

none_insn : (m : Machine) (x : Option Form) → class_here m ≡ option_map class_of x → waiting_insn m x ≡ None
    → can_wait (class_here m) (state_of m) ≡ false
none_insn m None here e = ap (λ class. can_wait class (state_of m)) here
none_insn m (Some i) here e =
    ap (λ class. can_wait class (state_of m)) here ∙ none_by m i (can_wait (Some (class_of i)) (state_of m)) refl e

-- a word that a precise step wouldn't end at is one that can be executed while a trap waits
pub waits-found : (m : Machine) (n : Next) (insn : Form) → n ≡ next_of (program_of m) (state_of m) []
    → insn_while_pending n ≡ Some insn → WaitsAt m (class_of insn)
waits-found m n insn is some =
    some_insn m _ insn (class_here-insn m _ refl) (sym (ap insn_while_pending is ∙ insn_while_pending-next m) ∙ some)

pub waits-none : (m : Machine) (n : Next) → n ≡ next_of (program_of m) (state_of m) [] → insn_while_pending n ≡ None
    → can_wait (class_here m) (state_of m) ≡ false
waits-none m n is none =
    none_insn m _ (class_here-insn m _ refl) (sym (ap insn_while_pending is ∙ insn_while_pending-next m) ∙ none)

-- the word at the PC, by its class
pub triggers-here : (m : Machine) (insn : Option Form) (b : Bool) → insn ≡ next_insn (program_of m) m.pc
    → triggers (option_map class_of insn) (state_of m) ≡ b → triggers (class_here m) (state_of m) ≡ b
triggers-here m insn b is e = ap (λ class. triggers class (state_of m)) (class_here-insn m insn is) ∙ e
