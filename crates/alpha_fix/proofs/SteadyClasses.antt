-- Classes of words but for the displacements of branches, LDA and LDAH: a verdict depends on no more.
use Rattle.std.proofs.Common.{◌≡◌, ℕ, pos, Option, Some, None, List, [], ◌∷◌, length, map, slice_get, refl, sym, ◌∙◌}
use Rattle.std.proofs.Common.{ap, subst, arith}
use Rattle.std.specs.Option.{option_map, option_and_then}
use Rattle.std.proofs.lemmas.Option.{slice_get-map}
use Rattle.std.proofs.lemmas.List.{length-map}
use Rattle.alpha_table.specs.Class.{Class, operate, trigger, address, load, store, load_locked, store_conditional}
use Rattle.alpha_table.specs.Class.{branch, jump, barrier, idle}
use Rattle.alpha_table.specs.ClassOf.{class_of}
use Rattle.alpha_table.specs.Decoded.{decoded}
use Rattle.alpha_table.specs.Code.{class_at, kind, trap_rc}
use Rattle.alpha_table.specs.Uses.{sets, uses, access}
use Rattle.alpha_table.proofs.Classes.{class_at-decoded}
use Rattle.alpha_shadow.specs.declared.broken.Condition.{Condition}
use Rattle.alpha_shadow.specs.Broken.{IsBroken, IsAccepted}
use Rattle.alpha_fix.specs.Cuts.{BreaksAbove, AreCutsAbove, HasBroken}
use Rattle.alpha_fix.proofs.StretchesAlike.{LooksAlike, broken_along}

abbrev pub steady : Class → Class
steady (operate op ra src rc) = operate op ra src rc
steady (trigger op ra src rc) = trigger op ra src rc
steady (address op ra rb disp) = address op ra rb (pos 0)
steady (load extension at ra) = load extension at ra
steady (store at ra) = store at ra
steady (load_locked extension at ra) = load_locked extension at ra
steady (store_conditional at ra) = store_conditional at ra
steady (branch condition ra disp) = branch condition ra (pos 0)
steady (jump ra rb) = jump ra rb
steady (barrier call) = barrier call
steady idle = idle

abbrev pub word_class : ℕ → Option Class
word_class w = option_map steady (option_map class_of (decoded w))

-- two lists of words have the same such classes
abbrev pub AreAlike : List ℕ → List ℕ → Type 0
AreAlike code other = map word_class code ≡ map word_class other

-- two classes have the same columns
record SameColumns (a b : Option Class) : Type 0 where
  same_kind : kind a ≡ kind b
  same_destination : trap_rc a ≡ trap_rc b
  same_set : sets a ≡ sets b
  same_access : access a ≡ access b
  same_uses : (r : ℕ) → uses a r ≡ uses b r

same_columns : (a b : Option Class) → a ≡ b → SameColumns a b
same_columns a b e = record {
  same_kind = ap kind e;
  same_destination = ap trap_rc e;
  same_set = ap sets e;
  same_access = ap access e;
  same_uses = λ r. ap (λ c. uses c r) e;
}

steady_columns : (c : Class) → SameColumns (Some c) (Some (steady c))
steady_columns (operate op ra src rc) = same_columns _ _ refl
steady_columns (trigger op ra src rc) = same_columns _ _ refl
steady_columns (address op ra rb disp) =
    record { same_kind = refl; same_destination = refl; same_set = refl; same_access = refl; same_uses = λ r. refl }
steady_columns (load extension at ra) = same_columns _ _ refl
steady_columns (store at ra) = same_columns _ _ refl
steady_columns (load_locked extension at ra) = same_columns _ _ refl
steady_columns (store_conditional at ra) = same_columns _ _ refl
steady_columns (branch None ra disp) =
    record { same_kind = refl; same_destination = refl; same_set = refl; same_access = refl; same_uses = λ r. refl }
steady_columns (branch (Some condition) ra disp) =
    record { same_kind = refl; same_destination = refl; same_set = refl; same_access = refl; same_uses = λ r. refl }
steady_columns (jump ra rb) = same_columns _ _ refl
steady_columns (barrier call) = same_columns _ _ refl
steady_columns idle = same_columns _ _ refl

all_columns : (a : Option Class) → SameColumns a (option_map steady a)
all_columns None = same_columns None None refl
all_columns (Some c) = steady_columns c

alike_columns : (a b : Option Class) → option_map steady a ≡ option_map steady b → SameColumns a b
alike_columns a b e =
    let x = all_columns a in
    let y = all_columns b in
    let z = same_columns (option_map steady a) (option_map steady b) e in
    record {
      same_kind = x.same_kind ∙ (z.same_kind ∙ sym y.same_kind);
      same_destination = x.same_destination ∙ (z.same_destination ∙ sym y.same_destination);
      same_set = x.same_set ∙ (z.same_set ∙ sym y.same_set);
      same_access = x.same_access ∙ (z.same_access ∙ sym y.same_access);
      same_uses = λ r. x.same_uses r ∙ (z.same_uses r ∙ sym (y.same_uses r));
    }

-- the class at a place, from the word there
steady-word_class : (o : Option ℕ)
    → option_map steady (option_map class_of (option_and_then decoded o))
    ≡ option_and_then (λ c. c) (option_map word_class o)
steady-word_class None = refl
steady-word_class (Some w) = refl

class_here : (code : List ℕ) (k : ℕ)
    → option_map steady (class_at code k) ≡ option_and_then (λ c. c) (slice_get (map word_class code) k)
class_here code k =
    ap (option_map steady) (class_at-decoded code k)
    ∙ (steady-word_class (slice_get code k) ∙ ap (option_and_then (λ c. c)) (sym (slice_get-map word_class code k)))

looks_alike : (code other : List ℕ) (k : ℕ) → AreAlike code other → LooksAlike code k other k
looks_alike code other k e =
    let f = class_here code k ∙ (ap (λ cs. option_and_then (λ c. c) (slice_get cs k)) e ∙ sym (class_here other k)) in
    let s = alike_columns (class_at code k) (class_at other k) f in
    record {
      same_kind = s.same_kind;
      same_destination = s.same_destination;
      same_set = s.same_set;
      same_access = s.same_access;
      same_uses = s.same_uses;
    }

pub alike_length : (code other : List ℕ) → AreAlike code other → length code ≡ length other
alike_length code other e = sym (length-map code word_class) ∙ (ap length e ∙ length-map other word_class)

pub broken_alike : (code other : List ℕ) (t at : ℕ) (c : Condition) → AreAlike code other → IsBroken code t at c
    → IsBroken other t at c
broken_alike code other t at c e b =
    let n = alike_length code other e in
    broken_along code t at other t at
    (record {
      shift = refl;
      alike = λ k j above below f.
          let same : k ≡ j = omega arith in
          subst (λ m. LooksAlike code k other m) same (looks_alike code other k e);
      within = λ h. omega arith;
      ends = λ h. h ∙ n;
    })
    c b

pub AreAlike-IsAccepted : (code other : List ℕ) → AreAlike code other → IsAccepted other → IsAccepted code
AreAlike-IsAccepted code other e accepted t at c b = accepted t at c (broken_alike code other t at c e b)

pub has_broken_alike : (code other : List ℕ) → AreAlike code other → HasBroken code → HasBroken other
has_broken_alike code other e h = record {
  trigger = h.trigger;
  at = h.at;
  condition = h.condition;
  broken = broken_alike code other h.trigger h.at h.condition e h.broken;
}

-- so they have the same cuts

breaks_alike : (code other : List ℕ) (from at : ℕ) → AreAlike code other → BreaksAbove code from at
    → BreaksAbove other from at
breaks_alike code other from at e h = record {
  above = h.above;
  trigger = h.trigger;
  since = h.since;
  condition = h.condition;
  broken = broken_alike code other h.trigger at h.condition e h.broken;
}

pub cuts_alike : (code other : List ℕ) (from : ℕ) (cuts : List ℕ) → AreAlike code other → AreCutsAbove code from cuts
    → AreCutsAbove other from cuts
cuts_alike code other from [] e none = λ at h. none at (breaks_alike other code from at (sym e) h)
cuts_alike code other from (cut ∷ cuts) e (next, more) = (
  record {
    breaks = breaks_alike code other from cut e next.breaks;
    least = λ at h. next.least at (breaks_alike other code from at (sym e) h);
  },
  cuts_alike code other cut cuts e more,
)
