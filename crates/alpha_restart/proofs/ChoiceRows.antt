-- Each row of the imprecise step's table is a choice, and each choice is a row.
use Rattle.std.proofs.Common.{◌≡◌, ◌<◌, ◌≤◌, ◌^◌, ◌⊎◌, not, ℕ, ℤ, Bool, true, false, cond, List, [], ◌∷◌, length}
use Rattle.std.proofs.Common.{option_and_then, Option, Some, None, refl, sym, ap, subst, ◌∙◌, inl, inr, arith}
use Rattle.std.specs.Prelude.{All}
use Rattle.std.proofs.lemmas.List.{take_all}
use Rattle.std.proofs.lemmas.List.Elements.{All-nil, All-cons, All-head, All-tail}
use Rattle.std.proofs.Math.Nat.{pow-suc}
use Rattle.alpha_words.specs.Digits.{digits, number, low_bytes, little}
use Rattle.alpha_words.proofs.DigitLemmas.{AllBelow, digits-AllBelow, length-digits, digits-number}
use Rattle.alpha_table.specs.declared.op.Cond.{Cond}
use Rattle.alpha_table.specs.declared.columns.MemAccess.{MemAccess}
use Rattle.alpha_table.specs.Class.{Class, operate, trigger, address, load, store, load_locked, store_conditional}
use Rattle.alpha_table.specs.Class.{branch, jump, barrier, idle}
use Rattle.alpha_table.specs.Code.{class_at}
use Rattle.alpha_table.specs.Uses.{access}
use Rattle.alpha_image.specs.Parts.{IsByte, place_of}
use Rattle.alpha_values.specs.TrapOp.{stops}
use Rattle.alpha_seq.specs.declared.end.End.TheVariants.{Overflow}
use Rattle.alpha_seq.specs.State.{Program, State, Ends}
use Rattle.alpha_seq.specs.Step.{onward, setting, lock_block, matches, next_class, step}
use Rattle.alpha_trap.specs.Scan.{scan}
use Rattle.alpha_imprecise.specs.StepResult.{Trap, with_register, Choice, Precisely, Waited, Reported, StepResult}
use Rattle.alpha_imprecise.specs.StepResult.{step_result}
use Rattle.alpha_imprecise.specs.Step.{triggers, triggered, trap_destination, precisely, address_at, completed, report}
use Rattle.alpha_imprecise.specs.Step.{can_wait, unpredictable_state, unpredictable_conditional, waited, imprecise_step}
use Rattle.alpha_imprecise.proofs.ReportLandings.{report_at}
use Rattle.alpha_restart.specs.Table.{IsChoice, SetsAny, AreBytes, StoresAny, storing, StoresIf, Branches, Executed}
use Rattle.alpha_restart.specs.Table.{unchosen, Steps, Overflows, Reports, Waits, Row, steps, overflows, reports, waits}
use Rattle.alpha_restart.proofs.CodeWordBounds.{IsNarrow, access-IsNarrow}

-- ---- bytes and their number

all_below : (xs : List ℕ) → All IsByte xs → AllBelow 256 xs
all_below [] h = tt
all_below (x ∷ xs) h = (All-head IsByte x xs h, all_below xs (All-tail IsByte x xs h))

below_all : (xs : List ℕ) → AllBelow 256 xs → All IsByte xs
below_all [] h = All-nil IsByte
below_all (x ∷ xs) h = All-cons IsByte x xs h.0 (below_all xs h.1)

number_below : (xs : List ℕ) → AllBelow 256 xs → little xs < 256 ^ length xs
unfolding number
number_below [] h = omega arith
number_below (x ∷ xs) h =
    let low = h.0 in
    let rest = number_below xs h.1 in
    let more = pow-suc 256 (length xs) in
    omega arith

-- bytes are those of their number
bytes_back : (n : ℕ) (xs : List ℕ) → length xs ≡ n → All IsByte xs → low_bytes n (little xs) ≡ xs
bytes_back n xs size h =
    let few : n ≤ length xs = omega arith in
    digits-number 8 n xs (all_below xs h) few ∙ take_all n xs (omega arith)

bytes_bound : (c : MemAccess) (xs : List ℕ) → IsNarrow c → length xs ≡ c.bytes → All IsByte xs → little xs < 2 ^ 64
bytes_bound c xs h size bytes =
    let low = number_below xs (all_below xs bytes) in
    let fit = h.small in
    let same = ap (λ n. 256 ^ n) size in
    omega arith

pub low_bytes_are : (n v : ℕ) → AreBytes n (low_bytes n v)
low_bytes_are n v = (length-digits 256 n v, below_all (digits 256 n v) (digits-AllBelow 8 n v))

-- ---- a word that is executed

-- the access of a word of the code
pub next_class-IsNarrow : (g : Program) (pc : ℕ) (o : Option Class) → next_class g pc ≡ o → (c : MemAccess)
    → access o ≡ Some c
    → IsNarrow c
next_class-IsNarrow g pc o is c e = by (place_of g.image pc) refl
  where
    by : (p : Option ℕ) → place_of g.image pc ≡ p → IsNarrow c
    by None f =
        let none : None ≡ o = sym (ap (option_and_then (class_at g.image.words)) f) ∙ is in
        let a : None ≡ Some c = ap access none ∙ e in
        cc
    by (Some k) f =
        let there : class_at g.image.words k ≡ o = sym (ap (option_and_then (class_at g.image.words)) f) ∙ is in
        access-IsNarrow g.image.words k c (ap access there ∙ e)

abbrev waiting_choice : ℕ → ℕ → Bool → Choice
waiting_choice value bytes adds = record { report = false; value = value; bytes = bytes; adds = adds }

-- the value and the bytes of a choice by which the word is executed so
record Chooses (o : Option Class) (s b : State) : Type 0 where
  value : ℕ
  bytes : ℕ
  small : value < 2 ^ 64
  small_too : bytes < 2 ^ 64
  can : can_wait o s ≡ true
  is : (adds : Bool) → unpredictable_state o s (waiting_choice value bytes adds) ≡ b

-- a word that sets a register
sets_any : (o : Option Class) (s b : State) (after : ℕ → State) → can_wait o s ≡ true
    → ((v : ℕ) (adds : Bool) → unpredictable_state o s (waiting_choice v 0 adds) ≡ after v)
    → SetsAny after b → Chooses o s b
sets_any o s b after can is h = record {
  value = h.0;
  bytes = 0;
  small = h.1;
  small_too = omega arith;
  can = can;
  is = λ adds. is h.0 adds ∙ sym h.2;
}

-- a word that stores
stores_any : (o : Option Class) (at : MemAccess) (s b : State) (v : ℕ) (after : List ℕ → State) → IsNarrow at
    → v < 2 ^ 64 → can_wait o s ≡ true
    → ((n : ℕ) (adds : Bool) → unpredictable_state o s (waiting_choice v n adds) ≡ after (low_bytes at.bytes n))
    → StoresAny at s after b → Chooses o s b
stores_any o at s b v after fit small can is h = record {
  value = v;
  bytes = little h.0;
  small = small;
  small_too = bytes_bound at h.0 fit h.1.0 h.1.1;
  can = can;
  is = λ adds. is (little h.0) adds ∙ (ap after (bytes_back at.bytes h.0 h.1.0 h.1.1) ∙ sym h.2);
}

stores_if : (at : MemAccess) (ra : ℕ) (s b : State) (flag : Bool) → IsNarrow at
    → can_wait (Some (store_conditional at ra)) s ≡ true → matches s.lock (lock_block at s) ≡ flag
    → StoresIf flag at ra s b → Chooses (Some (store_conditional at ra)) s b
stores_if at ra s b true fit can is h =
    stores_any (Some (store_conditional at ra)) at s b h.0
    (storing at s (record (setting s ra h.0) { lock = None })) fit h.1 can
    (λ n adds. ap (λ f. unpredictable_conditional f at ra s (waiting_choice h.0 n adds)) is) h.2
stores_if at ra s b false fit can is h =
    sets_any (Some (store_conditional at ra)) s b (λ value. record (setting s ra value) { lock = None }) can
    (λ v adds. ap (λ f. unpredictable_conditional f at ra s (waiting_choice v 0 adds)) is) h

same_any : (o : Option Class) (s b : State) → can_wait o s ≡ true
    → ((adds : Bool) → unpredictable_state o s (waiting_choice 0 0 adds) ≡ b) → Chooses o s b
same_any o s b can is =
    record { value = 0; bytes = 0; small = omega arith; small_too = omega arith; can = can; is = is }

Chooses-branch : (condition : Option Cond) (ra : ℕ) (disp : ℤ) (s b : State) → Branches condition ra disp s b
    → Chooses (Some (branch condition ra disp)) s b
Chooses-branch None ra disp s b h = sets_any _ s b _ refl (λ v adds. refl) h
Chooses-branch (Some c) ra disp s b h = same_any _ s b refl (λ adds. sym h)

Chooses-executed : (o : Option Class) (s b : State) → ((c : MemAccess) → access o ≡ Some c → IsNarrow c)
    → Executed o s b
    → Chooses o s b
Chooses-executed None s b fit h = absurd h
Chooses-executed (Some (operate op ra src rc)) s b fit h = sets_any _ s b _ refl (λ v adds. refl) h
Chooses-executed (Some (trigger op ra src rc)) s b fit h = sets_any _ s b _ refl (λ v adds. refl) h
Chooses-executed (Some (address op ra rb disp)) s b fit h = sets_any _ s b _ refl (λ v adds. refl) h
Chooses-executed (Some (load extension at ra)) s b fit h = sets_any _ s b _ h.0 (λ v adds. refl) h.1
Chooses-executed (Some (store at ra)) s b fit h =
    stores_any _ at s b 0 (storing at s (onward s)) (fit at refl) (omega arith) h.0 (λ n adds. refl) h.1
Chooses-executed (Some (load_locked extension at ra)) s b fit h = sets_any _ s b _ h.0 (λ v adds. refl) h.1
Chooses-executed (Some (store_conditional at ra)) s b fit h =
    stores_if at ra s b (matches s.lock (lock_block at s)) (fit at refl) h.0 refl h.1
Chooses-executed (Some (branch condition ra disp)) s b fit h = Chooses-branch condition ra disp s b h
Chooses-executed (Some (jump ra rb)) s b fit h = sets_any _ s b _ refl (λ v adds. refl) h
Chooses-executed (Some (barrier call)) s b fit h = absurd h
Chooses-executed (Some idle) s b fit h = same_any _ s b refl (λ adds. sym h)

-- ---- rows and choices

-- a choice that makes a step
abbrev pub Chosen : Program → State → Option Trap → List ℕ → StepResult → Type 0
Chosen g s pending input m = (c : Choice) × IsChoice c × (unchosen (imprecise_step g s pending c input) ≡ m)

small_choice : (v n : ℕ) (adds : Bool) → v < 2 ^ 64 → n < 2 ^ 64 → IsChoice (waiting_choice v n adds)
small_choice v n adds p q = record { value = p; bytes = q }

by_test : (b flag : Bool) (x y : StepResult) → b ≡ flag → unchosen (cond b x y) ≡ unchosen (cond flag x y)
by_test b flag x y e = ap (λ f. unchosen (cond f x y)) e

row_steps : (g : Program) (s : State) (pending : Option Trap) (input : List ℕ) (m : StepResult)
    → Steps g s pending input m → Chosen g s pending input m
row_steps g s pending input m h =
    let c = waiting_choice 0 0 false in
    subst (λ (p : Option Trap). Chosen g s p input m) (sym h.none) (
      c,
      small_choice 0 0 false (omega arith) (omega arith),
      by_test (triggers (next_class g s.pc) s) false (triggered g (next_class g s.pc) s c)
          (precisely (step g (next_class g s.pc) s input)) h.no_trigger
          ∙ sym h.is,
    )

row_overflows : (g : Program) (s : State) (pending : Option Trap) (input : List ℕ) (m : StepResult)
    → Overflows g s pending m → Chosen g s pending input m
row_overflows g s pending input m h =
    let c = waiting_choice h.value 0 false in
    subst (λ (p : Option Trap). Chosen g s p input m) (sym h.none) (
      c,
      small_choice h.value 0 false h.small (omega arith),
      by_test (triggers (next_class g s.pc) s) true (triggered g (next_class g s.pc) s c)
          (precisely (step g (next_class g s.pc) s input)) h.over
          ∙ sym h.is,
    )

-- nothing is chosen in a report
landed_untold : (g : Program) (s : State) (at : ℕ) (b : Bool)
    → let m : StepResult = cond b
    (step_result (record s { pc = address_at g.image at }) None (Precisely (Ends (Overflow (address_at g.image at)))))
    (step_result (completed g s at) None (Reported (address_at g.image at))) in
    unchosen m ≡ m
landed_untold g s at true = refl
landed_untold g s at false = refl

found_untold : (g : Program) (s : State) (t : Trap) (found : Option ℕ)
    → unchosen (report_at g s t found) ≡ report_at g s t found
found_untold g s t None = refl
found_untold g s t (Some at) = landed_untold g s at (stops g.completion)

pub report_untold : (g : Program) (s : State) (t : Trap) → unchosen (report g s t) ≡ report g s t
report_untold g s t = found_untold g s t (scan g.image s.pc t.mask)

row_reports : (g : Program) (s : State) (pending : Option Trap) (input : List ℕ) (m : StepResult)
    → Reports g s pending m → Chosen g s pending input m
row_reports g s pending input m h =
    subst (λ (p : Option Trap). Chosen g s p input m) (sym h.some) (
      record { report = true; value = 0; bytes = 0; adds = false },
      record { value = omega arith; bytes = omega arith },
      report_untold g s h.t ∙ sym h.is,
    )

-- the mask stays, or gets a destination
mask-stays_or_added : (mask d new : ℕ) → (new ≡ mask) ⊎ (new ≡ with_register mask d)
    → (adds : Bool) × (cond adds (with_register mask d) mask ≡ new)
mask-stays_or_added mask d new (inl e) = (false, sym e)
mask-stays_or_added mask d new (inr e) = (true, sym e)

row_waits : (g : Program) (s : State) (pending : Option Trap) (input : List ℕ) (m : StepResult) → Waits g s pending m
    → Chosen g s pending input m
row_waits g s pending input m h =
    let o = next_class g s.pc in
    let w = Chooses-executed o s h.after (next_class-IsNarrow g s.pc o refl) h.executed in
    let a = mask-stays_or_added h.t.mask (trap_destination o) h.mask h.adds in
    let c = waiting_choice w.value w.bytes a.0 in
    subst (λ (p : Option Trap). Chosen g s p input m) (sym h.some) (
      c,
      small_choice w.value w.bytes a.0 w.small w.small_too,
      by_test (not (can_wait o s)) false (report g s h.t) (waited o s h.t c) (ap not w.can)
          ∙ (ap (λ (b : State). step_result b (Some (record {
            place = h.t.place;
            mask = cond a.0 (with_register h.t.mask (trap_destination o)) h.t.mask;
          })) (Waited false 0 0)) (w.is a.0)
          ∙ (ap (λ n. step_result h.after (Some (record { place = h.t.place; mask = n })) (Waited false 0 0)) a.1
          ∙ sym h.is)),
    )

pub row_chosen : (g : Program) (s : State) (pending : Option Trap) (input : List ℕ) (m : StepResult)
    → Row g s pending input m → Chosen g s pending input m
row_chosen g s pending input m (steps h) = row_steps g s pending input m h
row_chosen g s pending input m (overflows h) = row_overflows g s pending input m h
row_chosen g s pending input m (reports h) = row_reports g s pending input m h
row_chosen g s pending input m (waits h) = row_waits g s pending input m h
