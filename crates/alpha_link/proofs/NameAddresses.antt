-- The addresses of names.
use Rattle.std.proofs.Common.{◌≡◌, ℕ, ◌+◌, List, [], ◌∷◌, ◌++◌, take, drop, length, get_or, ◌<◌, Option, None, Some}
use Rattle.std.proofs.Common.{refl, sym, ◌∙◌, ap}
use Rattle.std.specs.Option.{option_map, option_or}
use Rattle.std.proofs.Math.Path.{fun_ext}
use Rattle.std.proofs.lemmas.List.{take_more}
use Rattle.alpha_asm.specs.Layout.{first}
use Rattle.alpha_asm.proofs.NextItem.{or_none-identity}
use Rattle.alpha_link.specs.Linked.{Located, address_in, address_of, repeated}
use Rattle.alpha_link.specs.Names.{again_in}
use Rattle.alpha_link.specs.declared.fault.LinkFault.{LinkFault}
use Rattle.alpha_link.specs.declared.fault.LinkFault.TheVariants.{Duplicate}
use Rattle.alpha_link.proofs.LoopLists.{drop-get_or}

pub option_or-associates : {A : Type 0} (o p q : Option A) → option_or (option_or o p) q ≡ option_or o (option_or p q)
option_or-associates None p q = refl
option_or-associates (Some x) p q = refl

pub first_append : {A B : Type 0} (f : A → Option B) (xs : List A) (x : A)
    → first f (xs ++ x ∷ []) ≡ option_or (first f xs) (f x)
first_append f [] x = or_none-identity (f x)
first_append f (y ∷ xs) x =
    ap (option_or (f y)) (first_append f xs x) ∙ sym (option_or-associates (f y) (first f xs) (f x))

-- the modules before the next one
pub take-next_module : (ls : List Located) (n : ℕ) (l : Located) → n < length ls → l ≡ get_or ls n l
    → take (n + 1) ls ≡ take n ls ++ l ∷ []
take-next_module ls n l within here = take_more ls n l within ∙ ap (λ (x : Located). take n ls ++ x ∷ []) (sym here)

-- the addresses behind a further module
pub find-next_module : (find find1 : List ℕ → Option ℕ) (ls : List Located) (n : ℕ) (l : Located) → n < length ls
    → l ≡ get_or ls n l → ((name : List ℕ) → find name ≡ address_of (take n ls) name)
    → ((name : List ℕ) → find1 name ≡ option_or (find name) (address_in name l)) → (name : List ℕ)
    → find1 name ≡ address_of (take (n + 1) ls) name
find-next_module find find1 ls n l within here before more name =
    more name
    ∙ (ap (λ (o : Option ℕ). option_or o (address_in name l)) (before name)
    ∙ (sym (first_append (address_in name) (take n ls) l)
    ∙ ap (first (address_in name)) (sym (take-next_module ls n l within here))))

-- what is left of the modules from one on
repeated-rest : (find : List ℕ → Option ℕ) (ls : List Located) (n : ℕ) (l : Located) (whole : Option (ℕ × ℕ))
    → n < length ls
    → l ≡ get_or ls n l → ((name : List ℕ) → find name ≡ address_of (take n ls) name)
    → repeated (take n ls) (drop n ls) ≡ whole
    → option_or (option_map (λ k. (l.number, k)) (again_in find l)) (repeated (take n ls ++ l ∷ []) (drop (n + 1) ls))
    ≡ whole
repeated-rest find ls n l whole within here found e =
    ap (λ (f : List ℕ → Option ℕ).
    option_or (option_map (λ k. (l.number, k)) (again_in f l)) (repeated (take n ls ++ l ∷ []) (drop (n + 1) ls)))
    (fun_ext found)
    ∙ (ap (λ (x : Located). repeated (take n ls) (x ∷ drop (n + 1) ls)) here
    ∙ (ap (repeated (take n ls)) (sym (drop-get_or ls n l within)) ∙ e))

pub repeated-next : (find : List ℕ → Option ℕ) (ls : List Located) (n : ℕ) (l : Located) (whole : Option (ℕ × ℕ))
    → n < length ls → l ≡ get_or ls n l → ((name : List ℕ) → find name ≡ address_of (take n ls) name)
    → again_in find l ≡ None → repeated (take n ls) (drop n ls) ≡ whole
    → repeated (take (n + 1) ls) (drop (n + 1) ls) ≡ whole
repeated-next find ls n l whole within here found none e =
    ap (λ (xs : List Located). repeated xs (drop (n + 1) ls)) (take-next_module ls n l within here)
    ∙ (ap
    (λ (o : Option ℕ). option_or (option_map (λ k. (l.number, k)) o) (repeated (take n ls ++ l ∷ []) (drop (n + 1) ls)))
    (sym none)
    ∙ repeated-rest find ls n l whole within here found e)

some_again : (find : List ℕ → Option ℕ) (ls : List Located) (n : ℕ) (l : Located) (k : ℕ) (whole : Option (ℕ × ℕ))
    → n < length ls → l ≡ get_or ls n l → ((name : List ℕ) → find name ≡ address_of (take n ls) name)
    → again_in find l ≡ Some k → repeated (take n ls) (drop n ls) ≡ whole → whole ≡ Some (l.number, k)
some_again find ls n l k whole within here found some e =
    sym (repeated-rest find ls n l whole within here found e)
    ∙ ap
    (λ (o : Option ℕ). option_or (option_map (λ j. (l.number, j)) o) (repeated (take n ls ++ l ∷ []) (drop (n + 1) ls)))
    some

-- a refusal of the module that a loop has come to
pub repeated-found : (find : List ℕ → Option ℕ) (ls : List Located)
    (n : ℕ) (l : Located) (fault : LinkFault) (whole : Option (ℕ × ℕ))
    → n < length ls → l ≡ get_or ls n l → ((name : List ℕ) → find name ≡ address_of (take n ls) name)
    → option_map (Duplicate l.number) (again_in find l) ≡ Some fault → repeated (take n ls) (drop n ls) ≡ whole
    → option_map (λ p. Duplicate p.0 p.1) whole ≡ Some fault
repeated-found find ls n l fault whole within here found refused e = by (again_in find l) refl refused
  where
    by : (o : Option ℕ) → again_in find l ≡ o → option_map (Duplicate l.number) o ≡ Some fault
        → option_map (λ p. Duplicate p.0 p.1) whole ≡ Some fault
    by None none f = absurd cc
    by (Some k) some f =
        ap (option_map (λ (p : ℕ × ℕ). Duplicate p.0 p.1)) (some_again find ls n l k whole within here found some e) ∙ f
