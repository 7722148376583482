-- Values of names, as names are added.
use Rattle.std.proofs.Common.{◌≡◌, ℕ, zero, suc, ◌+◌, ◌<◌, ◌≤◌, ◌++◌, ◌∷◌, [], List, length, map, get_or, Bool, true}
use Rattle.std.proofs.Common.{false, cond, nat_lt, nat_eq, Option, None, Some, if◌then◌else◌, not, refl, ap, sym, ◌∙◌}
use Rattle.std.proofs.Common.{arith, length-append}
use Rattle.std.specs.Prelude.{slice_get, position, is_some, IfSome}
use Rattle.std.specs.Borrow.{Bor}
use Rattle.std.specs.List.{list_any, position_or_len}
use Rattle.std.specs.Option.{option_and_then}
use Rattle.std.specs.Str.{bytes_eq}
use Rattle.std.proofs.lemmas.Bool.{eqb-true, eqb-false}
use Rattle.std.proofs.lemmas.List.Sums.{prefix_len-le-length}
use Rattle.std.proofs.lemmas.List.Folds.{position_or_len_push}
use Rattle.std.proofs.lemmas.List.Quantifiers.{position-Some}
use Rattle.std.proofs.lemmas.Option.{slice_get-get_or}
use Rattle.std.proofs.lemmas.Slice.Eq.{bytes_eq-Decides}
use Rattle.alpha_names.specs.Values.{value_of}
use Rattle.alpha_names.proofs.TreeSearches.{by_bool, not_both}
use Rattle.alpha_names.proofs.NumberedNames.{by_option}

inside_some : {X : Type 0} (values : List X) (k : ℕ) → k < length values → is_some (slice_get values k) ≡ true
inside_some [] k h = absurd (omega arith)
inside_some (x ∷ values) zero h = refl
inside_some (x ∷ values) (suc k) h = inside_some values k (omega arith)

-- a name that stands among others has the value at its number
pub has_value : {X : Type 0} (values : List X) (names : List (List ℕ)) (name : List ℕ) → length values ≡ length names →
    is_some (position (bytes_eq name) names) ≡ is_some (value_of values names name)
has_value {X} values names name alike =
    by_option (position (bytes_eq name) names)
    (is_some (position (bytes_eq name) names) ≡ is_some (value_of values names name))
    (λ none. ap is_some none ∙ sym (ap (λ (o : Option ℕ). is_some (option_and_then (slice_get values) o)) none))
    (λ k found.
    let within = (position-Some (bytes_eq name) names k [] found).0 in
    ap is_some found ∙ sym (ap (λ (o : Option ℕ). is_some (option_and_then (slice_get values) o)) found
    ∙ inside_some values k (omega (arith, within, alike))))

pub position-slice_get : (names : List (List ℕ)) (name : List ℕ) (o : Option ℕ) → o ≡ position (bytes_eq name) names →
    IfSome o (λ number. slice_get names number ≡ Some name)
position-slice_get names name None e = tt
position-slice_get names name (Some k) e =
    let (inside, here, before) = position-Some (bytes_eq name) names k [] (sym e) in
    slice_get-get_or names k [] inside ∙ ap Some (sym ((bytes_eq-Decides name (get_or names k [])).0 here))

-- the first place among more names
before_end : {X : Type 0} (values : List X) (value : X) (k : ℕ) → k < length values
    → slice_get (values ++ value ∷ []) k ≡ slice_get values k
before_end [] value k h = absurd (omega arith)
before_end (x ∷ values) value zero h = refl
before_end (x ∷ values) value (suc k) h = before_end values value k (omega arith)

slice_get-push : {X : Type 0} (values : List X) (value : X)
    → slice_get (values ++ value ∷ []) (length values) ≡ Some value
slice_get-push [] value = refl
slice_get-push (x ∷ values) value = slice_get-push values value

at_end : {X : Type 0} (values : List X) (value : X) (k : ℕ) → k ≡ length values
    → slice_get (values ++ value ∷ []) k ≡ Some value
at_end values value k e = ap (slice_get (values ++ value ∷ [])) e ∙ slice_get-push values value

abbrev place_after : (p : List ℕ → Bool) (names : List (List ℕ)) (name : List ℕ) → Option ℕ → Option ℕ
place_after p names name None = if p name then Some (length names) else None
place_after p names name (Some k) = Some k

-- the first place at which a test passes, where one more name stands behind
some_place : (p : List ℕ → Bool) (names : List (List ℕ)) → position_or_len p names < length names
    → position p names ≡ Some (position_or_len p names)
some_place p names h = let e : nat_lt (position_or_len p names) (length names) ≡ true = grind arith in
    ap (λ (b : Bool). cond b (Some (position_or_len p names)) None) e

no_place : (p : List ℕ → Bool) (names : List (List ℕ)) → length names ≤ position_or_len p names
    → position p names ≡ None
no_place p names h = let e : nat_lt (position_or_len p names) (length names) ≡ false = grind arith in
    ap (λ (b : Bool). cond b (Some (position_or_len p names)) None) e

first_within : (p : List ℕ → Bool) (names : List (List ℕ)) → nat_eq (position_or_len p names) (length names) ≡ false
    → position_or_len p names < length names
first_within p names differs =
    let bound = prefix_len-le-length (λ x. not (p x)) names in
    let apart : position_or_len p names ≡ length names → ⊥ =
    λ e. eqb-false (position_or_len p names) (length names) differs e in
    omega (arith, bound, apart)

position_more : (p : List ℕ → Bool) (names : List (List ℕ)) (name : List ℕ) →
    position p (names ++ name ∷ []) ≡ place_after p names name (position p names)
position_more p names name =
    let first : ℕ = position_or_len p names in
    let more : List (List ℕ) = names ++ name ∷ [] in
    let longer : length more ≡ length names + 1 = length-append names (name ∷ []) in
    let push = position_or_len_push p names name in
    by_bool (nat_eq first (length names)) (position p more ≡ place_after p names name (position p names))
    (λ held.
    let none : position p names ≡ None = no_place p names (omega (arith, eqb-true first (length names) held)) in
    let here : position_or_len p more ≡ length names + cond (p name) 0 1 =
    push ∙ ap (λ (b : Bool). cond b (length names + cond (p name) 0 1) first) held in
    by_bool (p name) (position p more ≡ place_after p names name (position p names))
    (λ passes.
    let none_more : length names + 0 ≡ length names = omega arith in
    let at : position_or_len p more ≡ length names =
    here ∙ (ap (λ (b : Bool). length names + cond b 0 1) passes ∙ none_more) in
    some_place p more (omega (arith, at, longer)) ∙ (ap Some at
    ∙ sym (ap (place_after p names name) none ∙ ap (λ (b : Bool). if b then Some (length names) else None) passes)))
    (λ fails.
    let at : position_or_len p more ≡ length names + 1 = here ∙ ap (λ (b : Bool). length names + cond b 0 1) fails in
    no_place p more (omega (arith, at, longer))
    ∙ sym (ap (place_after p names name) none ∙ ap (λ (b : Bool). if b then Some (length names) else None) fails)))
    (λ differs.
    let at : position_or_len p more ≡ first =
    push ∙ ap (λ (b : Bool). cond b (length names + cond (p name) 0 1) first) differs in
    let within : first < length names = first_within p names differs in
    some_place p more (omega (arith, at, longer, within))
    ∙ (ap Some at ∙ sym (ap (place_after p names name) (some_place p names within))))

-- a name that wasn't there has its value, and each other name the value that it had
pub value_added : {X : Type 0} (values : List X) (names : List (List ℕ)) (name : List ℕ) (value : X)
    → length values ≡ length names →
    position (bytes_eq name) names ≡ None → (other : List ℕ) →
    value_of (values ++ value ∷ []) (names ++ name ∷ []) other
    ≡ (if bytes_eq name other then Some value else value_of values names other)
value_added {X} values names name value alike none other =
    let more : List X = values ++ value ∷ [] in
    ap (option_and_then (slice_get more)) (position_more (bytes_eq other) names name)
    ∙ by_bool (bytes_eq name other)
    (option_and_then (slice_get more) (place_after (bytes_eq other) names name (position (bytes_eq other) names))
    ≡ (if bytes_eq name other then Some value else value_of values names other))
    (λ held.
    let same : name ≡ other = (bytes_eq-Decides name other).0 held in
    let gone : position (bytes_eq other) names ≡ None =
    ap (λ (x : List ℕ). position (bytes_eq x) names) (sym same) ∙ none in
    let passes : bytes_eq other name ≡ true = (bytes_eq-Decides other name).1 (sym same) in
    ap (λ (o : Option ℕ). option_and_then (slice_get more) (place_after (bytes_eq other) names name o)) gone
    ∙ (ap (λ (b : Bool). option_and_then (slice_get more) (if b then Some (length names) else None)) passes
    ∙ (at_end values value (length names) (sym alike)
    ∙ sym (ap (λ (b : Bool). if b then Some value else value_of values names other) held))))
    (λ fails.
    let apart : bytes_eq other name ≡ false =
    by_bool (bytes_eq other name) (bytes_eq other name ≡ false)
    (λ held. absurd (not_both (bytes_eq name other)
    ((bytes_eq-Decides name other).1 (sym ((bytes_eq-Decides other name).0 held))) fails)) (λ e. e) in
    by_option (position (bytes_eq other) names)
    (option_and_then (slice_get more) (place_after (bytes_eq other) names name (position (bytes_eq other) names))
    ≡ (if bytes_eq name other then Some value else value_of values names other))
    (λ gone. ap (λ (o : Option ℕ). option_and_then (slice_get more) (place_after (bytes_eq other) names name o)) gone
    ∙ (ap (λ (b : Bool). option_and_then (slice_get more) (if b then Some (length names) else None)) apart
    ∙ sym (ap (λ (b : Bool). if b then Some value else value_of values names other) fails
    ∙ ap (option_and_then (slice_get values)) gone)))
    (λ k found.
    ap (λ (o : Option ℕ). option_and_then (slice_get more) (place_after (bytes_eq other) names name o)) found
    ∙ (before_end values value k (omega (arith, (position-Some (bytes_eq other) names k [] found).0, alike))
    ∙ sym (ap (λ (b : Bool). if b then Some value else value_of values names other) fails
    ∙ ap (option_and_then (slice_get values)) found))))

-- whether a name is among some is whether it has a place there
any_first : (p : List ℕ → Bool) (names : List (Bor (List ℕ))) →
    list_any (λ n. p n.now) names
    ≡ nat_lt (position_or_len p (map (λ n. n.now) names)) (length (map (λ n. n.now) names))
any_first p [] = refl
any_first p (n ∷ names) =
    let rest = any_first p names in
    by_bool (p n.now)
    (list_any (λ m. p m.now) (n ∷ names)
    ≡ nat_lt (position_or_len p (map (λ m. m.now) (n ∷ names))) (length (map (λ m. m.now) (n ∷ names))))
    (λ held. grind (arith, held)) (λ fails. grind (arith, fails, rest))

is_some-cond : (b : Bool) (k : ℕ) → is_some (cond b (Some k) None) ≡ b
is_some-cond true k = refl
is_some-cond false k = refl

pub any_has_place : (names : List (Bor (List ℕ))) (name : List ℕ) →
    list_any (λ n. bytes_eq name n.now) names ≡ is_some (position (bytes_eq name) (map (λ n. n.now) names))
any_has_place names name =
    let ns : List (List ℕ) = map (λ n. n.now) names in
    any_first (bytes_eq name) names
    ∙ sym (is_some-cond (nat_lt (position_or_len (bytes_eq name) ns) (length ns)) (position_or_len (bytes_eq name) ns))
