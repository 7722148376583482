-- What follows from a reading that gives something, and from one that is refused.
use Rattle.std.proofs.Common.{◌≡◌, ℕ, ◌≤◌, Bool, true, false, nat_lt, List, length, take, drop, cond, refl, ap}
use Rattle.std.specs.Prelude.{Result, Ok, Err}
use Rattle.std.proofs.lemmas.Bool.{ltb-false}
use Rattle.alpha_link.specs.declared.fault.ModuleFault.{ModuleFault}
use Rattle.alpha_link.specs.declared.fault.ModuleFault.TheVariants.{Header, Size, Cut, Word, Symbol, Relocation, Rest}
use Rattle.alpha_link.specs.declared.fault.ModuleFault.TheVariants.{NoMemory}
use Rattle.alpha_link.specs.Reading.{and_then, taken, IsRefusal}

-- a reading that gave something
abbrev pub read_ok : {X : Type 0} → X → Result X ModuleFault
read_ok x = Ok x

pub gave-injective : {X : Type 0} (x y : X) → read_ok x ≡ Ok y → x ≡ y
gave-injective x y e = cc

-- both parts of a pair
pub pair-injective : {X Y : Type 0} (p q : X × Y) → p ≡ q → (p.0 ≡ q.0) × (p.1 ≡ q.1)
pair-injective {X} {Y} p q e = (ap (λ (r : X × Y). r.0) e, ap (λ (r : X × Y). r.1) e)

pub ok_pair : {X Y : Type 0} (a c : X) (b d : Y) → read_ok {X = X × Y} (a, b) ≡ Ok (c, d) → (a ≡ c) × (b ≡ d)
ok_pair a c b d e = pair-injective (a, b) (c, d) (gave-injective (a, b) (c, d) e)

pub bind_ok : {X Y : Type 0} (r : Result X ModuleFault) (f : X → Result Y ModuleFault) (y : Y) → and_then r f ≡ Ok y
    → (x : X) × (r ≡ Ok x) × (f x ≡ Ok y)
bind_ok (Ok x) f y e = (x, refl, e)
bind_ok (Err d) f y e = absurd cc

-- a reading that a test may refuse
pub unless_err : {X : Type 0} (b : Bool) (d : ModuleFault) (r : Result X ModuleFault) (y : X) → cond b (Err d) r ≡ Ok y
    → (b ≡ false) × (r ≡ Ok y)
unless_err true d r y e = absurd cc
unless_err false d r y e = (refl, e)

-- or pass
pub cond-Ok : {X : Type 0} (b : Bool) (d : ModuleFault) (x y : X) → cond b (Ok x) (Err d) ≡ Ok y → (b ≡ true) × (x ≡ y)
cond-Ok true d x y e = (refl, gave-injective x y e)
cond-Ok false d x y e = absurd cc

pub taken_ok : (total n : ℕ) (bytes : List ℕ) (x : List ℕ × List ℕ) → taken total n bytes ≡ Ok x
    → (n ≤ length bytes) × ((take n bytes, drop n bytes) ≡ x)
taken_ok total n bytes x e =
    let p = unless_err (nat_lt (length bytes) n) (Cut total) (Ok (take n bytes, drop n bytes)) x e in
    (ltb-false (length bytes) n p.0, gave-injective (take n bytes, drop n bytes) x p.1)

-- a refusal that is passed on
pub IsRefusal-passed_on : {Y Y' : Type 0} (e : ModuleFault) (r : Result Y ModuleFault) (s : Result Y' ModuleFault)
    → ((d : ModuleFault) → r ≡ Err d → s ≡ Err d) → IsRefusal e r → IsRefusal e s
IsRefusal-passed_on Header r s f g = f Header g
IsRefusal-passed_on (Size n) r s f g = f (Size n) g
IsRefusal-passed_on (Cut n) r s f g = f (Cut n) g
IsRefusal-passed_on (Word n) r s f g = f (Word n) g
IsRefusal-passed_on (Symbol n) r s f g = f (Symbol n) g
IsRefusal-passed_on (Relocation n) r s f g = f (Relocation n) g
IsRefusal-passed_on (Rest n) r s f g = f (Rest n) g
IsRefusal-passed_on NoMemory r s f g = tt
