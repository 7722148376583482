-- The laws of stages: where what they read is told a stage has one outcome, where the files are of bytes it has some,
-- and it never stops with a device's fault but for a file that isn't there.
use Rattle.std.proofs.Common.{◌≡◌, ◌⊎◌, ◌∙◌, ℕ, List, refl, sym, ap, subst, inl, inr}
use Rattle.alpha_cmd.specs.declared.status.Status.{Status}
use Rattle.alpha_cmd.specs.declared.status.Status.TheVariants.{ShelfFault}
use Rattle.alpha_cmd.specs.Outcome.{Outcome, continues, stops, Either, Then, Never, Gives}
use Rattle.alpha_cmd.specs.Status.{refused, class_of, status_line, Says}

-- a stage has one outcome
abbrev pub IsSingle : {X : Type 0} → (Outcome X → Type 0) → Type 0
IsSingle {X = X} R = (o p : Outcome X) → R o → R p → o ≡ p

-- a stage has an outcome
abbrev pub HasOutcome : {X : Type 0} → (Outcome X → Type 0) → Type 0
HasOutcome {X = X} R = (o : Outcome X) × R o

-- a status that says no, or a shelf's fault where the files aren't there
abbrev pub IsRefusal : Type 0 → Status → Type 0
IsRefusal there s = (class_of s ≡ refused) ⊎ ((s ≡ ShelfFault) × (there → ⊥))

pub record Lawful {X : Type 0} (told whole there : Type 0) (R : Outcome X → Type 0) : Type 0 where
  pub single : told → IsSingle R
  pub some : whole → HasOutcome R
  pub plain : (s : Status) (line : List ℕ) → R (stops s line) → IsRefusal there s

-- ---- a stage by its two sides

-- its good outcomes are one, its refusals are one, and it doesn't have both
pub record IsSingleOutcome {X : Type 0} (Good : X → Type 0) (Why : Status → List ℕ → Type 0) : Type 0 where
  pub good : (a b : X) → Good a → Good b → a ≡ b
  pub why : (s t : Status) (l m : List ℕ) → Why s l → Why t m → (s ≡ t) × (l ≡ m)
  pub apart : (a : X) (s : Status) (l : List ℕ) → Good a → Why s l → ⊥

same_stop : {X : Type 0} (s t : Status) (l m : List ℕ) → s ≡ t → l ≡ m → ◌≡◌ {A = Outcome X} (stops s l) (stops t m)
same_stop s t l m e f = cc

pub Either-single : {X : Type 0} (Good : X → Type 0) (Why : Status → List ℕ → Type 0) → IsSingleOutcome Good Why
    → IsSingle (Either Good Why)
Either-single Good Why one (continues a) (continues b) h g = ap continues (one.good a b h g)
Either-single Good Why one (continues a) (stops t m) h g = absurd (one.apart a t m h g)
Either-single Good Why one (stops s l) (continues b) h g = absurd (one.apart b s l g h)
Either-single Good Why one (stops s l) (stops t m) h g =
    let same = one.why s t l m h g in
    same_stop s t l m same.0 same.1

-- refusals that are said by their status's line
pub Says-one : (Why : Status → Type 0) → ((s t : Status) → Why s → Why t → s ≡ t) → (s t : Status) (l m : List ℕ)
    → Says Why s l → Says Why t m → (s ≡ t) × (l ≡ m)
Says-one Why one s t l m h g = let same = one s t h.0 g.0 in (same, h.1 ∙ (ap status_line same ∙ sym g.1))

-- the statuses of a stage that stops by the fault which a value has
abbrev pub IsFault : {F V : Type 0} → (F → Status) → V → (F → V) → Status → Type 0
IsFault {F = F} bad value has status = (fault : F) × (status ≡ bad fault) × (value ≡ has fault)

pub Faults-lawful : {X F V told whole there : Type 0} (Good : X → Type 0) (bad : F → Status) (value : V) (has : F → V)
    → ((f g : F) → has f ≡ has g → f ≡ g)
    → ((f : F) → class_of (bad f) ≡ refused) → ((a b : X) → Good a → Good b → a ≡ b)
    → ((a : X) (f : F) → Good a → value ≡ has f → ⊥)
    → (whole → HasOutcome (Either Good (Says (IsFault bad value has))))
    → Lawful told whole there (Either Good (Says (IsFault bad value has)))
Faults-lawful Good bad value has same refuses one apart some = record {
  single = λ h. Either-single Good (Says (IsFault bad value has)) (record {
    good = one;
    why = Says-one (IsFault bad value has) (λ s t f g. f.1 ∙ (ap bad (same f.0 g.0 (sym f.2 ∙ g.2)) ∙ sym g.1));
    apart = λ a s l good f. apart a f.0.0 good f.0.2;
  });
  some = some;
  plain = λ s l f. inl (ap class_of f.0.1 ∙ refuses f.0.0);
}

-- a stage that never stops
pub Goes-lawful : {X : Type 0} {told whole there : Type 0} (Good : X → Type 0)
    → (told → (a b : X) → Good a → Good b → a ≡ b) → (whole → (a : X) × Good a)
    → Lawful told whole there (Either Good Never)
Goes-lawful {X = X} Good one some = record {
  single = λ told.
      Either-single Good Never (record { good = one told; why = λ s t l m h g. absurd h; apart = λ a s l h g. g });
  some = λ whole. let found = some whole in (continues found.0, found.1);
  plain = λ s line h. absurd h;
}

pub Gives-lawful : {X : Type 0} {told whole there : Type 0} (x : X) → Lawful told whole there (Gives x)
Gives-lawful x = Goes-lawful (λ y. y ≡ x) (λ told a b h g. h ∙ sym g) (λ whole. (x, refl))

-- ---- one stage after another

-- where the first stage's outcome is known, the row has one of the second
pub Then-found : {X Y : Type 0} (R : Outcome X → Type 0) (S : X → Outcome Y → Type 0) → IsSingle R → (x : X)
    → R (continues x) → (o : Outcome Y) → Then R S o → S x o
Then-found {X = X} {Y = Y} R S first x r = go
  where
    moved : (z : X) (o : Outcome Y) → R (continues z) → S z o → S x o
    moved z o h s =
        let e = first (continues z) (continues x) h r in
        let same : z ≡ x = cc in subst (λ v. S v o) same s

    go : (o : Outcome Y) → Then R S o → S x o
    go (continues y) h = moved h.0 (continues y) h.1 h.2
    go (stops s l) (inl h) = absurd (let e = first (continues x) (stops s l) r h in cc)
    go (stops s l) (inr h) = moved h.0 (stops s l) h.1 h.2

Then-single : {X Y : Type 0} (R : Outcome X → Type 0) (S : X → Outcome Y → Type 0) → IsSingle R
    → ((x : X) → R (continues x) → IsSingle (S x)) → IsSingle (Then R S)
Then-single {X = X} {Y = Y} R S first second = go
  where
    apart : (x : X) (s : Status) (l : List ℕ) → R (continues x) → R (stops s l) → ⊥
    apart x s l h g = let e = first (continues x) (stops s l) h g in cc

    go : (o p : Outcome Y) → Then R S o → Then R S p → o ≡ p
    go (continues y) p h g = second h.0 h.1 (continues y) p h.2 (Then-found R S first h.0 h.1 p g)
    go (stops s l) p (inr h) g = second h.0 h.1 (stops s l) p h.2 (Then-found R S first h.0 h.1 p g)
    go (stops s l) (continues z) (inl h) g = absurd (apart g.0 s l g.1 h)
    go (stops s l) (stops t m) (inl h) (inl g) =
        let e = first (stops s l) (stops t m) h g in same_stop s t l m (cc) (cc)
    go (stops s l) (stops t m) (inl h) (inr g) = absurd (apart g.0 s l g.1 h)

Then-some : {X Y : Type 0} (R : Outcome X → Type 0) (S : X → Outcome Y → Type 0) → HasOutcome R
    → ((x : X) → R (continues x) → HasOutcome (S x)) → HasOutcome (Then R S)
Then-some {X = X} {Y = Y} R S first second = at first.0 first.1
  where
    on : (x : X) → R (continues x) → (o : Outcome Y) → S x o → HasOutcome (Then R S)
    on x r (continues y) s = (continues y, (x, r, s))
    on x r (stops status line) s = (stops status line, inr (x, r, s))

    at : (o : Outcome X) → R o → HasOutcome (Then R S)
    at (continues x) r = let next = second x r in on x r next.0 next.1
    at (stops status line) r = (stops status line, inl r)

Then-plain : {X Y : Type 0} (there : Type 0) (R : Outcome X → Type 0) (S : X → Outcome Y → Type 0)
    → ((s : Status) (l : List ℕ) → R (stops s l) → IsRefusal there s)
    → ((x : X) → R (continues x) → (s : Status) (l : List ℕ) → S x (stops s l) → IsRefusal there s)
    → (s : Status) (l : List ℕ) → Then R S (stops s l) → IsRefusal there s
Then-plain there R S first second s l (inl h) = first s l h
Then-plain there R S first second s l (inr h) = second h.0 h.1 s l h.2

pub Then-lawful : {X Y : Type 0} {told whole there : Type 0} {R : Outcome X → Type 0} {S : X → Outcome Y → Type 0}
    → Lawful told whole there R
    → ((x : X) → R (continues x) → Lawful told whole there (S x)) → Lawful told whole there (Then R S)
Then-lawful {there = there} {R = R} {S = S} first second = record {
  single = λ told. Then-single R S (first.single told) (λ x h. (second x h).single told);
  some = λ whole. Then-some R S (first.some whole) (λ x h. (second x h).some whole);
  plain = Then-plain there R S first.plain (λ x h. (second x h).plain);
}

-- a stage that stops, or what cuts it short, stops the row
pub Then-stops : {X Y : Type 0} {C : Type 0} (R : Outcome X → Type 0)
    (S : X → Outcome Y → Type 0) (s : Status) (l : List ℕ)
    → R (stops s l) ⊎ C → Then R S (stops s l) ⊎ C
Then-stops R S s l (inl h) = inl (inl h)
Then-stops R S s l (inr h) = inr h
