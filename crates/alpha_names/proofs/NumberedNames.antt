-- Names that are all found, each with its number.
use Rattle.std.proofs.Common.{◌≡◌, ℕ, zero, suc, ◌<◌, ◌≤◌, ◌++◌, ◌∷◌, [], List, length, map, get_or, Bool, true, false}
use Rattle.std.proofs.Common.{cond, nat_lt, Option, None, Some, if◌then◌else◌, refl, ap, sym, ◌∙◌, arith}
use Rattle.std.proofs.Math.Path.{fun_ext}
use Rattle.std.specs.Prelude.{slice_get, position, option_map, is_none, is_some, unwrap_or, IfSome}
use Rattle.std.specs.List.{position_or_len}
use Rattle.std.proofs.lemmas.List.Sums.{fails_before_first}
use Rattle.std.proofs.lemmas.Bool.{ltb-false}
use Rattle.std.specs.Borrow.{Bor}
use Rattle.std.specs.Str.{bytes_eq}
use Rattle.std.proofs.lemmas.List.Quantifiers.{position-Some}
use Rattle.std.proofs.lemmas.Option.{slice_get-map, slice_get-get_or, slice_get_within, get_or_from_slice_get}
use Rattle.std.proofs.lemmas.Slice.Eq.{bytes_eq-Decides}
use Rattle.alpha_names.specs.declared.tree.Look.{Look}
use Rattle.alpha_names.specs.declared.tree.Look.TheVariants.{Free, Taken, Deep}
use Rattle.alpha_names.specs.Tree.{slot_in, seek_in}
use Rattle.alpha_names.specs.Hashes.{quick_hash, slow_hash}
use Rattle.alpha_names.specs.Finder.{Finder, reads, is_named, taken_or, if_right, other_number, number_in_crowd}
use Rattle.alpha_names.specs.Finder.{number_in, Grows}
use Rattle.alpha_names.specs.Names.{AreFoundBy}
use Rattle.alpha_names.specs.declared.numbers.Numbers.{Numbers}
use Rattle.std.specs.BTreeMap.{get_by}
use Rattle.std.specs.Cmp.Lexicographic.{slice_cmp}
use Rattle.std.specs.Ordering.{nat_cmp}
use Rattle.alpha_names.proofs.TreeSearches.{by_bool, not_both}
use Rattle.alpha_names.proofs.NumberLookups.{none_is_some}

some_same : {X : Type 0} (x y : X) → Some x ≡ Some y → x ≡ y
some_same {X} x y e = ap (λ (o : Option X). unwrap_or o x) e

pub by_option : (o : Option ℕ) (P : Type 0) → (o ≡ None → P) → ((k : ℕ) → o ≡ Some k → P) → P
by_option None P none found = none refl
by_option (Some k) P none found = found k refl

-- only what is right is found
right_pick : (is_right : ℕ → Bool) (k number : ℕ) (elsewhere : Option ℕ)
    → (elsewhere ≡ Some number → is_right number ≡ true) →
    (if is_right k then Some k else elsewhere) ≡ Some number → is_right number ≡ true
right_pick is_right k number elsewhere right e =
    by_bool (is_right k) (is_right number ≡ true)
    (λ held. ap is_right (some_same number k (sym e ∙ ap (λ (b : Bool). if b then Some k else elsewhere) held)) ∙ held)
    (λ fails. right (sym (ap (λ (b : Bool). if b then Some k else elsewhere) fails) ∙ e))

right_stage : (is_right : ℕ → Bool) (l : Look) (number : ℕ) (elsewhere : Option ℕ)
    → (elsewhere ≡ Some number → is_right number ≡ true) →
    taken_or is_right l elsewhere ≡ Some number → is_right number ≡ true
right_stage is_right (Free place) number elsewhere right e = absurd (none_is_some number e)
right_stage is_right (Taken k) number elsewhere right e = right_pick is_right k number elsewhere right e
right_stage is_right Deep number elsewhere right e = right e

right_other : (is_right : ℕ → Bool) (o : Option ℕ) (number : ℕ) → if_right is_right o ≡ Some number
    → is_right number ≡ true
right_other is_right None number e = absurd (none_is_some number e)
right_other is_right (Some k) number e = right_pick is_right k number None (λ f. absurd (none_is_some number f)) e

pub numbering-sound : (numbers : Numbers) (is_right : ℕ → Bool) (name : List ℕ) (number : ℕ)
    → number_in numbers is_right name ≡ Some number → is_right number ≡ true
numbering-sound numbers is_right name number e =
    right_stage is_right (seek_in (slot_in numbers.tree) (quick_hash name)) number
    (number_in_crowd numbers.crowd is_right name)
    (λ f. right_stage is_right (seek_in (slot_in numbers.crowd.tree) (slow_hash name)) number
    (other_number numbers.crowd.others is_right name)
    (λ g. right_other is_right (get_by (λ n. slice_cmp nat_cmp name n.now) numbers.crowd.others.numbers) number g) f) e

-- a name has a number among these, or stands there
reads-position : (o : Option (Bor (List ℕ))) (name : List ℕ) → reads o name ≡ true
    → option_map (λ n. n.now) o ≡ Some name
reads-position None name e = absurd (not_both false e refl)
reads-position (Some n) name e = ap Some ((bytes_eq-Decides n.now name).0 e)

is_named-slice_get : (names : List (Bor (List ℕ))) (name : List ℕ) (k : ℕ) → is_named names name k ≡ true
    → slice_get (map (λ n. n.now) names) k ≡ Some name
is_named-slice_get names name k e =
    slice_get-map (λ (n : Bor (List ℕ)). n.now) names k ∙ reads-position (slice_get names k) name e

named_so : (o : Option (Bor (List ℕ))) (name : List ℕ) → option_map (λ n. n.now) o ≡ Some name → reads o name ≡ true
named_so None name e = absurd (none_is_some name e)
named_so (Some n) name e = (bytes_eq-Decides n.now name).1 (some_same n.now name e)

is_there : (names : List (Bor (List ℕ))) (name : List ℕ) (k : ℕ) → slice_get (map (λ n. n.now) names) k ≡ Some name
    → is_named names name k ≡ true
is_there names name k e =
    named_so (slice_get names k) name (sym (slice_get-map (λ (n : Bor (List ℕ)). n.now) names k) ∙ e)

pub position-none_apart : (ns : List (List ℕ)) (name : List ℕ) (k : ℕ) → position (bytes_eq name) ns ≡ None
    → slice_get ns k ≡ Some name → ⊥
position-none_apart ns name k none e =
    let first : ℕ = position_or_len (bytes_eq name) ns in
    by_bool (nat_lt first (length ns)) ⊥
    (λ held. none_is_some first (sym none ∙ ap (λ (b : Bool). cond b (Some first) None) held))
    (λ fails.
    let within : k < length ns = slice_get_within ns k name e in
    let past : length ns ≤ first = ltb-false first (length ns) fails in
    not_both (bytes_eq name name) ((bytes_eq-Decides name name).1 refl)
    (sym (ap (bytes_eq name) (get_or_from_slice_get ns k name [] e))
    ∙ fails_before_first (bytes_eq name) ns k [] (omega (arith, within, past))))

-- where all names are found, the number that is found is that of the first such name
pub number_in-first_position : (names : List (Bor (List ℕ))) (numbers : Numbers) → AreFoundBy names (number_in numbers)
    → (name : List ℕ) (k : ℕ) →
    position (bytes_eq name) (map (λ n. n.now) names) ≡ Some k → number_in numbers (is_named names name) name ≡ Some k
number_in-first_position names numbers all name k e =
    let ns : List (List ℕ) = map (λ (n : Bor (List ℕ)). n.now) names in
    let (inside, here, before) = position-Some (bytes_eq name) ns k [] e in
    all k name (slice_get-get_or ns k [] inside ∙ ap Some (sym ((bytes_eq-Decides name (get_or ns k [])).0 here)))

pub number_in-position : (names : List (Bor (List ℕ))) (numbers : Numbers) → AreFoundBy names (number_in numbers)
    → (name : List ℕ) →
    number_in numbers (is_named names name) name ≡ position (bytes_eq name) (map (λ n. n.now) names)
number_in-position names numbers all name =
    let ns : List (List ℕ) = map (λ (n : Bor (List ℕ)). n.now) names in
    let found = number_in numbers (is_named names name) name in
    by_option (position (bytes_eq name) ns) (found ≡ position (bytes_eq name) ns)
    (λ none. by_option found (found ≡ position (bytes_eq name) ns) (λ e. e ∙ sym none)
    (λ k e.
    absurd (position-none_apart ns name k none
    (is_named-slice_get names name k (numbering-sound numbers (is_named names name) name k e)))))
    (λ k e. number_in-first_position names numbers all name k e ∙ sym e)

-- the number behind those of some names, and one more name there
behind_names : (names : List (Bor (List ℕ))) (name : Bor (List ℕ))
    → is_named (names ++ name ∷ []) name.now (length names) ≡ true
behind_names [] name = (bytes_eq-Decides name.now name.now).1 refl
behind_names (n ∷ names) name = behind_names names name

only_there : (names : List (Bor (List ℕ))) (name : Bor (List ℕ)) (k : ℕ)
    → ((j : ℕ) → is_named names name.now j ≡ false) →
    is_named (names ++ name ∷ []) name.now k ≡ true → k ≡ length names
only_there [] name zero absent e = refl
only_there [] name (suc k) absent e = absurd (not_both false e refl)
only_there (n ∷ names) name zero absent e = absurd (not_both (bytes_eq n.now name.now) e (absent zero))
only_there (n ∷ names) name (suc k) absent e = ap (λ (j : ℕ). suc j) (only_there names name k (λ j. absent (suc j)) e)

other_named : (names : List (Bor (List ℕ))) (name : Bor (List ℕ)) (other : List ℕ) → bytes_eq name.now other ≡ false
    → (k : ℕ) →
    is_named (names ++ name ∷ []) other k ≡ is_named names other k
other_named [] name other differs zero = differs
other_named [] name other differs (suc k) = refl
other_named (n ∷ names) name other differs zero = refl
other_named (n ∷ names) name other differs (suc k) = other_named names name other differs k

absent_all : (names : List (Bor (List ℕ))) (find : Finder) (name : List ℕ) → AreFoundBy names find
    → find (is_named names name) name ≡ None →
    (k : ℕ) → is_named names name k ≡ false
absent_all names find name all none k =
    by_bool (is_named names name k) (is_named names name k ≡ false)
    (λ held. absurd (none_is_some k (sym none ∙ all k name (is_named-slice_get names name k held))))
    (λ fails. fails)

-- a further name is found, and the others as before
pub AreFoundBy-next : (names : List (Bor (List ℕ))) (name : Bor (List ℕ)) (old new : Finder) → AreFoundBy names old
    → old (is_named names name.now) name.now ≡ None →
    Grows old new name.now (length names) → AreFoundBy (names ++ name ∷ []) new
AreFoundBy-next names name old new all none grows = λ k other e.
    let more : List (Bor (List ℕ)) = names ++ name ∷ [] in
    let absent = absent_all names old name.now all none in
    let here = is_there more other k e in
    by_bool (bytes_eq name.now other) (new (is_named more other) other ≡ Some k)
    (λ held.
    let same : name.now ≡ other = (bytes_eq-Decides name.now other).0 held in
    let place : k ≡ length names =
    only_there names name k absent (ap (λ (x : List ℕ). is_named more x k) same ∙ here) in
    sym (ap (λ (x : List ℕ). new (is_named more x) x) same)
    ∙ (grows.1 (is_named more name.now) (behind_names names name, λ j f. only_there names name j absent f)
    ∙ ap Some (sym place)))
    (λ fails.
    let so : (j : ℕ) → is_named more other j ≡ is_named names other j = other_named names name other fails in
    ap (λ (p : ℕ → Bool). new p other) (fun_ext so)
    ∙ grows.0 (is_named names other) other k
    (λ same. not_both (bytes_eq name.now other) ((bytes_eq-Decides name.now other).1 (sym same)) fails)
    (all k other (is_named-slice_get names other k (sym (so k) ∙ here))))

-- the names are still found where one was to be added and wasn't
pub found_still : (names : List (Bor (List ℕ))) (name : List ℕ) (old new : Finder) → AreFoundBy names old
    → old (is_named names name) name ≡ None →
    Grows old new name (length names) → AreFoundBy names new
found_still names name old new all none grows = λ k other e.
    grows.0 (is_named names other) other k
    (λ same.
    not_both (is_named names name k) (is_there names name k (e ∙ ap Some same)) (absent_all names old name all none k))
    (all k other e)

pub is_none-true_none : (o : Option ℕ) → true ≡ is_none o → o ≡ None
is_none-true_none None e = refl
is_none-true_none (Some k) e = absurd (not_both true refl e)

-- the number of the name with a number
pub AreFoundBy-number : (names : List (Bor (List ℕ))) (numbers : Numbers) → AreFoundBy names (number_in numbers)
    → (number : ℕ) (o : Option (Bor (List ℕ))) →
    o ≡ slice_get names number → IfSome o (λ n. position (bytes_eq n.now) (map (λ m. m.now) names) ≡ Some number)
AreFoundBy-number names numbers all number None e = tt
AreFoundBy-number names numbers all number (Some n) e =
    sym (number_in-position names numbers all n.now)
    ∙ all number n.now
    (slice_get-map (λ (m : Bor (List ℕ)). m.now) names number ∙ ap (option_map (λ (m : Bor (List ℕ)). m.now)) (sym e))

pub is_none-false_some : (o : Option ℕ) → false ≡ is_none o → true ≡ is_some o
is_none-false_some None e = absurd (not_both false e refl)
is_none-false_some (Some k) e = refl
