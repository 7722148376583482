-- The ranks of names that are sorted, and relocations with these in place of numbers.
use Rattle.std.proofs.Common.{◌≡◌, ◌≢◌, ◌⊎◌, inl, inr, eqb, ℕ, zero, suc, ◌+◌, ◌<◌, ◌||◌, Bool, true, false, List, []}
use Rattle.std.proofs.Common.{◌∷◌, ◌++◌, length, map, take, get_or, set, All, Option, None, Some, Bor, refl, sym, ap}
use Rattle.std.proofs.Common.{◌∙◌, arith}
use Rattle.std.specs.Prelude.{IfSome, IfNone, slice_get, not, ◌==◌}
use Rattle.std.specs.Option.{option_map, option_and_then}
use Rattle.std.specs.List.{AllByRecursion, filter_map, cons_option, list_any}
use Rattle.std.specs.Str.{bytes_eq}
use Rattle.std.specs.Ordering.{nat_cmp}
use Rattle.std.specs.declared.cmp.Ordering.TheVariants.{Equal}
use Rattle.std.specs.Cmp.Lexicographic.{slice_cmp, nat_list_cmp_total}
use Rattle.std.proofs.lemmas.Bool.{eqb-true}
use Rattle.std.proofs.lemmas.Bool.Decides.{eqb_tells}
use Rattle.std.proofs.lemmas.Cmp.{tied_itself}
use Rattle.std.proofs.lemmas.List.{append-nil, length-map, map-append}
use Rattle.std.proofs.lemmas.List.Elements.{All-from_recursion, recursion_from_All, All-append, All-take, All-more}
use Rattle.std.proofs.lemmas.Option.{slice_get-map, slice_get_within, get_or_from_slice_get}
use Rattle.std.proofs.lemmas.Slice.Eq.{bytes_eq-Decides}
use Rattle.alpha_asm.specs.declared.patch.Patch.{Patch}
use Rattle.alpha_asm.specs.declared.place.Section.{Section}
use Rattle.alpha_asm.specs.declared.place.Section.TheVariants as sides
use Rattle.alpha_asm.specs.declared.place.LabelLocation.{LabelLocation}
use Rattle.alpha_asm.specs.Patches.{Fix, fix_of}
use Rattle.alpha_asm.proofs.IsWhole.{slice_get-seam}
use Rattle.alpha_link.specs.declared.keyed.KeyedName.{KeyedName}
use Rattle.alpha_asm.specs.declared.patch.RelocationKind.{RelocationKind}
use Rattle.alpha_link.specs.declared.relocation.Relocation.{Relocation}
use Rattle.alpha_link.specs.Symbols.{Named}
use Rattle.alpha_link.specs.SortedNames.{Rise}
use Rattle.alpha_link.specs.Made.{symbol_at_location, number_in, kind_in, offset_in, relocation_with, relocation_for}
use Rattle.alpha_link.specs.Numbered.{texts, relocation_at, relocations_at, ranked, HasRank, ByNumbers}
use Rattle.alpha_link.proofs.IsNumbered.{slice_get-append_some, texts_more}
use Rattle.alpha_link.proofs.DistinctNames.{distinct_names, last_left, distinct_names-push_other}
use Rattle.alpha_link.proofs.DistinctNames.{distinct_names-push_same}
use Rattle.alpha_link.proofs.SortedNames.{number_in-rank}

abbrev BorrowedName : Type 0
BorrowedName = Bor (List ℕ)

-- each of some names has a rank by its number, at which it stands among the rising ones
abbrev pub AreRanks : List (List ℕ) → List (List ℕ) → List ℕ → Type 0
AreRanks names rising ranks = (number : ℕ) (name : List ℕ) → slice_get names number ≡ Some name
    → (rank : ℕ) × (slice_get ranks number ≡ Some rank) × (slice_get rising rank ≡ Some name)

set_there : (xs : List ℕ) (i v : ℕ) → i < length xs → slice_get (set xs i v) i ≡ Some v
set_there [] i v h = absurd (omega arith)
set_there (x ∷ xs) zero v h = refl
set_there (x ∷ xs) (suc i) v h = set_there xs i v (omega arith)

set_elsewhere : (xs : List ℕ) (i j v : ℕ) → j ≢ i → slice_get (set xs i v) j ≡ slice_get xs j
set_elsewhere [] i j v h = refl
set_elsewhere (x ∷ xs) zero zero v h = absurd (h refl)
set_elsewhere (x ∷ xs) zero (suc j) v h = refl
set_elsewhere (x ∷ xs) (suc i) zero v h = refl
set_elsewhere (x ∷ xs) (suc i) (suc j) v h = set_elsewhere xs i j v (λ e. h (ap suc e))

abbrev named_symbol : (List ℕ → Option LabelLocation) → BorrowedName → Named
named_symbol spot n = symbol_at_location n.now (spot n.now)

-- Names in order with one more: the symbols of those without repetitions, the last of them, and the rank of the one
-- more.
pub record RanksGrown (spot : List ℕ → Option LabelLocation) (before : List BorrowedName) (x : BorrowedName)
    (symbols : List Named)
    (last : Option BorrowedName) (rank : ℕ) : Type 0 where
  pub made : symbols ≡ map (λ n. symbol_at_location n.now (spot n.now)) (distinct_names (before ++ x ∷ []))
  pub left : last ≡ last_left (before ++ x ∷ [])
  pub stands : slice_get (texts (distinct_names (before ++ x ∷ []))) rank ≡ Some x.now
  pub stays : IfSome last (λ b. slice_get (texts (distinct_names (before ++ x ∷ []))) rank ≡ Some b.now)
  pub grows : (more : List BorrowedName) × (distinct_names (before ++ x ∷ []) ≡ distinct_names before ++ more)

pub grown_new : (spot : List ℕ → Option LabelLocation) (ns : List BorrowedName)
    (last : Option BorrowedName) (x : BorrowedName) (symbols : List Named) (rank : ℕ)
    → symbols ≡ map (λ n. symbol_at_location n.now (spot n.now)) (distinct_names ns)
    → last ≡ last_left ns → IfSome last (λ b. true ≡ not (bytes_eq x.now b.now)) → rank ≡ length symbols
    → RanksGrown spot ns x (symbols ++ symbol_at_location x.now (spot x.now) ∷ []) (Some x) rank
grown_new spot ns last x symbols rank made left new count =
    let (more, after) = distinct_names-push_other ns last x left new in
    let place : rank ≡ length (texts (distinct_names ns)) =
    count ∙ (ap length made
    ∙ (length-map (distinct_names ns) (named_symbol spot)
    ∙ sym (length-map (distinct_names ns) (λ (n : BorrowedName). n.now)))) in
    let there : slice_get (texts (distinct_names (ns ++ x ∷ []))) rank ≡ Some x.now =
    ap (λ l. slice_get (texts l) rank) more
    ∙ (ap (λ l. slice_get l rank) (texts_more (distinct_names ns) (x ∷ []))
    ∙ (ap (slice_get (texts (distinct_names ns) ++ x.now ∷ [])) place
    ∙ slice_get-seam (texts (distinct_names ns)) [] x.now)) in
    record {
      made =
          ap (λ l. l ++ named_symbol spot x ∷ []) made
          ∙ (sym (map-append (named_symbol spot) (distinct_names ns) (x ∷ []))
          ∙ ap (map (named_symbol spot)) (sym more));
      left = sym after;
      stands = there;
      stays = there;
      grows = (x ∷ [], more);
    }

pub grown_old : (spot : List ℕ → Option LabelLocation) (ns : List BorrowedName)
    (last : Option BorrowedName) (x : BorrowedName) (symbols : List Named) (rank : ℕ)
    → symbols ≡ map (λ n. symbol_at_location n.now (spot n.now)) (distinct_names ns)
    → last ≡ last_left ns → IfNone last (false ≡ true) → IfSome last (λ b. false ≡ not (bytes_eq x.now b.now))
    → IfSome last (λ b. slice_get (texts (distinct_names ns)) rank ≡ Some b.now)
    → RanksGrown spot ns x symbols last rank
grown_old spot ns None x symbols rank made left none old stands = cc
grown_old spot ns (Some b) x symbols rank made left none old stands =
    let (more, after) = distinct_names-push_same ns (Some b) x left none old in
    let equal : bytes_eq x.now b.now ≡ true = once_more (bytes_eq x.now b.now) old in
    let one : x.now ≡ b.now = (bytes_eq-Decides x.now b.now).0 equal in
    let there : slice_get (texts (distinct_names (ns ++ x ∷ []))) rank ≡ Some b.now =
    ap (λ l. slice_get (texts l) rank) more ∙ stands in
    record {
      made = made ∙ ap (map (named_symbol spot)) (sym more);
      left = left ∙ sym (after ∙ left);
      stands = there ∙ ap Some (sym one);
      stays = there;
      grows = ([], more ∙ sym (append-nil (distinct_names ns)));
    }
  where
    once_more : (r : Bool) → false ≡ not r → r ≡ true
    once_more true h = refl
    once_more false h = cc

-- where some names have ranks, and a further one gets its own at its number, all of these have one
module _ (names : List (List ℕ)) (ranks : List ℕ) (rank : ℕ) (x : KeyedName) (before more : List BorrowedName)
    (x_number : slice_get names x.number ≡ Some x.name.now) (inside : x.number < length ranks)
    (there : slice_get (texts (before ++ more)) rank ≡ Some x.name.now) where
  one_more : (k : KeyedName) → slice_get names k.number ≡ Some k.name.now → HasRank ranks (texts before) k
      → HasRank (set ranks x.number rank) (texts (before ++ more)) k
  one_more k k_number (r, at, stands) = by (eqb_tells k.number x.number)
    where
      by : ((eqb k.number x.number ≡ true) × (k.number ≡ x.number))
          ⊎ ((eqb k.number x.number ≡ false) × (k.number ≢ x.number))
          → HasRank (set ranks x.number rank) (texts (before ++ more)) k
      by (inl (e, same_number)) =
          let same_name : Some k.name.now ≡ Some x.name.now =
          sym k_number ∙ (ap (slice_get names) same_number ∙ x_number) in (
            rank,
            ap (slice_get (set ranks x.number rank)) same_number ∙ set_there ranks x.number rank inside,
            there ∙ sym same_name,
          )
      by (inr (e, other)) = (
        r,
        set_elsewhere ranks x.number k.number rank other ∙ at,
        ap (λ ns. slice_get ns r) (texts_more before more)
            ∙ slice_get-append_some (texts before) (texts more) r k.name.now stands,
      )

pub ranks_more : (names : List (List ℕ)) (ks : List KeyedName) (i : ℕ)
    (x d : KeyedName) (ranks : List ℕ) (rank : ℕ) (before after more : List BorrowedName)
    → i < length ks → x ≡ get_or ks i d
    → All (λ k. slice_get names k.number ≡ Some k.name.now) ks → x.number < length ranks → after ≡ before ++ more
    → slice_get (texts after) rank ≡ Some x.name.now
    → All (HasRank ranks (texts before)) (take i ks)
    → All (HasRank (set ranks x.number rank) (texts after)) (take (i + 1) ks)
ranks_more names ks i x d ranks rank before after more here is_x numbers inside grown there all =
    let those = before ++ more in
    let x_number : slice_get names x.number ≡ Some x.name.now = rw is_x (numbers i d here) in
    let stands : slice_get (texts those) rank ≡ Some x.name.now = rw (← grown) there in
    let old : All (HasRank (set ranks x.number rank) (texts those)) (take i ks) =
    λ j e h. one_more names ranks rank x before more x_number inside stands (get_or (take i ks) j e)
    (All-take (λ k. slice_get names k.number ≡ Some k.name.now) i ks numbers j e h) (all j e h) in
    let new : HasRank (set ranks x.number rank) (texts those) (get_or ks i d) =
    rw (← is_x) (rank, set_there ranks x.number rank inside, stands) in
    rw grown (All-more (HasRank (set ranks x.number rank) (texts those)) ks i d here old new)

-- the rank of a name among rising ones is the number of its symbol
number_of_rank : (ns : List BorrowedName) (rank : ℕ) (name : List ℕ) → Rise ns → slice_get (texts ns) rank ≡ Some name
    → number_in (texts ns) name ≡ Some rank
number_of_rank ns rank name rise at =
    by (slice_get ns rank) refl (sym (slice_get-map (λ (n : BorrowedName). n.now) ns rank) ∙ at)
  where
    by : (o : Option BorrowedName) → slice_get ns rank ≡ o → option_map (λ (n : BorrowedName). n.now) o ≡ Some name
        → number_in (texts ns) name ≡ Some rank
    by None e h = cc
    by (Some n) e h =
        let same : n.now ≡ name = cc in
        let none : BorrowedName = record { ref_ptr = (0, 0); now = [] } in
        let there : get_or ns rank none ≡ n = get_or_from_slice_get ns rank n none e in
        let tied : slice_cmp nat_cmp n.now n.now ≡ Equal = tied_itself nat_list_cmp_total n.now in
        let found : number_in (texts ns) n.now ≡ Some rank = number_in-rank ns n none rank rise
        (slice_get_within ns rank n e) (ap (λ (m : BorrowedName). slice_cmp nat_cmp m.now n.now) there ∙ tied) in
        rw (← same) found

-- a relocation by the number of its label, with the rank of this
relocation_ranked : (side : Section) (ns : List BorrowedName) (ranks : List ℕ) (f : Fix) (number rank : ℕ) → Rise ns
    → slice_get ranks number ≡ Some rank → slice_get (texts ns) rank ≡ Some f.name.reference.label
    → option_map (ranked ranks) (relocation_at side f number) ≡ relocation_for side (texts ns) f
relocation_ranked side ns ranks f number rank rise at stands = by (kind_in side f.name.target)
  where
    by : (k : Option RelocationKind)
        → option_map (ranked ranks)
        (option_map (λ kind. relocation_with kind (offset_in f.at f.name.target) f.name.reference.offset number) k)
        ≡ option_and_then
        (λ kind. option_map (relocation_with kind (offset_in f.at f.name.target) f.name.reference.offset)
        (number_in (texts ns) f.name.reference.label))
        k
    by None = refl
    by (Some kind) =
        let place : get_or ranks number 0 ≡ rank = get_or_from_slice_get ranks number rank 0 at in
        let found = number_of_rank ns rank f.name.reference.label rise stands in
        rw (found, place) refl

pub relocations_ranked : (side : Section) (names : List (List ℕ))
    (ns : List BorrowedName) (ranks : List ℕ) (ps : List Patch) (numbers : List ℕ)
    → Rise ns → AreRanks names (texts ns) ranks
    → map (slice_get names) numbers ≡ map (λ p. Some p.to.label.now) ps
    → map (ranked ranks) (relocations_at side (map fix_of ps) numbers)
    ≡ filter_map (relocation_for side (texts ns)) (map fix_of ps)
relocations_ranked side names ns ranks [] [] rise are e = refl
relocations_ranked side names ns ranks [] (n ∷ numbers) rise are e = cc
relocations_ranked side names ns ranks (p ∷ ps) [] rise are e = cc
relocations_ranked side names ns ranks (p ∷ ps) (n ∷ numbers) rise are e =
    let here : slice_get names n ≡ Some p.to.label.now = cc in
    let others : map (slice_get names) numbers ≡ map (λ p. Some p.to.label.now) ps = cc in
    let (rank, at, stands) = are n p.to.label.now here in
    map_cons (relocation_at side (fix_of p) n) (relocations_at side (map fix_of ps) numbers)
    ∙ (ap (λ o. cons_option o (map (ranked ranks) (relocations_at side (map fix_of ps) numbers)))
    (relocation_ranked side ns ranks (fix_of p) n rank rise at stands)
    ∙ ap (cons_option (relocation_for side (texts ns) (fix_of p)))
    (relocations_ranked side names ns ranks ps numbers rise are others))
  where
    map_cons : (o : Option Relocation) (rest : List Relocation)
        → map (ranked ranks) (cons_option o rest) ≡ cons_option (option_map (ranked ranks) o) (map (ranked ranks) rest)
    map_cons None rest = refl
    map_cons (Some r) rest = refl

-- each relocation has a number of which there is a rank
pub relocations_within : (side : Section) (names rising : List (List ℕ))
    (ranks : List ℕ) (ps : List Patch) (numbers : List ℕ)
    → AreRanks names rising ranks
    → map (slice_get names) numbers ≡ map (λ p. Some p.to.label.now) ps
    → AllByRecursion (λ r. r.symbol < length ranks) (relocations_at side (map fix_of ps) numbers)
relocations_within side names rising ranks [] [] are e = tt
relocations_within side names rising ranks [] (n ∷ numbers) are e = cc
relocations_within side names rising ranks (p ∷ ps) [] are e = cc
relocations_within side names rising ranks (p ∷ ps) (n ∷ numbers) are e =
    let here : slice_get names n ≡ Some p.to.label.now = cc in
    let others : map (slice_get names) numbers ≡ map (λ p. Some p.to.label.now) ps = cc in
    let (rank, at, stands) = are n p.to.label.now here in
    by (kind_in side (fix_of p).name.target) (slice_get_within ranks n rank at)
    (relocations_within side names rising ranks ps numbers are others)
  where
    by : (k : Option RelocationKind) → n < length ranks
        → AllByRecursion (λ (r : Relocation). r.symbol < length ranks) (relocations_at side (map fix_of ps) numbers)
        → AllByRecursion (λ (r : Relocation). r.symbol < length ranks)
        (cons_option (option_map (λ kind. relocation_with kind (offset_in (fix_of p).at (fix_of p).name.target)
        (fix_of p).name.reference.offset n) k) (relocations_at side (map fix_of ps) numbers))
    by None h all = all
    by (Some kind) h all = (h, all)

-- all names have ranks, if each number is that of a keyed name that has one
pub are_ranks : (names rising : List (List ℕ)) (ranks : List ℕ) (ks : List KeyedName)
    → All (λ k. slice_get names k.number ≡ Some k.name.now) ks
    → ((number : ℕ) → number < length names → list_any (λ k. number == k.number) ks ≡ true)
    → All (HasRank ranks rising) ks → AreRanks names rising ranks
are_ranks names rising ranks ks numbers each all number name at =
    find ks (recursion_from_All (λ (k : KeyedName). slice_get names k.number ≡ Some k.name.now) ks numbers)
    (recursion_from_All (HasRank ranks rising) ks all) (each number (slice_get_within names number name at))
  where
    find : (ks : List KeyedName) → AllByRecursion (λ (k : KeyedName). slice_get names k.number ≡ Some k.name.now) ks
        → AllByRecursion (HasRank ranks rising) ks
        → list_any (λ (k : KeyedName). number == k.number) ks ≡ true
        → (rank : ℕ) × (slice_get ranks number ≡ Some rank) × (slice_get rising rank ≡ Some name)
    find [] ns hs e = cc
    find (k ∷ ks) (n, ns) (h, hs) e = by (number == k.number) refl e (find ks ns hs)
      where
        by : (b : Bool) → (number == k.number) ≡ b → (b || list_any (λ (k : KeyedName). number == k.number) ks) ≡ true
            → (list_any (λ (k : KeyedName). number == k.number) ks ≡ true
            → (rank : ℕ) × (slice_get ranks number ≡ Some rank) × (slice_get rising rank ≡ Some name))
            → (rank : ℕ) × (slice_get ranks number ≡ Some rank) × (slice_get rising rank ≡ Some name)
        by true same f others =
            let one : number ≡ k.number = eqb-true number k.number same in
            let (rank, there, stands) = h in
            let name_is : Some name ≡ Some k.name.now = sym at ∙ (ap (slice_get names) one ∙ n) in
            (rank, ap (slice_get ranks) one ∙ there, stands ∙ sym name_is)
        by false other f others = others f

-- the same of names as the code has them
pub ranks_of : (names : List BorrowedName) (ks : List KeyedName) (ranks : List ℕ)
    → All (λ k. slice_get (texts names) k.number ≡ Some k.name.now) ks
    → ((number : ℕ) → number < length names → list_any (λ k. number == k.number) ks ≡ true)
    → All (HasRank ranks (texts (distinct_names (map (λ k. k.name) ks)))) ks
    → AreRanks (texts names) (texts (distinct_names (map (λ k. k.name) ks))) ranks
ranks_of names ks ranks numbers each all =
    let count : length (texts names) ≡ length names = length-map names (λ (n : BorrowedName). n.now) in
    are_ranks (texts names) (texts (distinct_names (map (λ (k : KeyedName). k.name) ks))) ranks ks numbers
    (λ number h. each number (omega (arith, count))) all

pub AreRanks-within : (names rising : List (List ℕ)) (ranks : List ℕ) (ps : List Patch) (relocations : List Relocation)
    → AreRanks names rising ranks → ByNumbers names ps relocations → All (λ r. r.symbol < length ranks) relocations
AreRanks-within names rising ranks ps relocations are (numbers, named, made) =
    let part : (side : Section)
    → All (λ (r : Relocation). r.symbol < length ranks) (relocations_at side (map fix_of ps) numbers) =
    λ side. All-from_recursion (λ (r : Relocation). r.symbol < length ranks)
    (relocations_at side (map fix_of ps) numbers) (relocations_within side names rising ranks ps numbers are named) in
    rw made
    (All-append (λ (r : Relocation). r.symbol < length ranks) (relocations_at sides.Code (map fix_of ps) numbers)
    (relocations_at sides.Data (map fix_of ps) numbers) (part sides.Code) (part sides.Data))

pub all_ranked : (names : List (List ℕ)) (ns : List BorrowedName) (ranks : List ℕ) (ps : List Patch)
    (old new : List Relocation)
    → Rise ns → AreRanks names (texts ns) ranks → ByNumbers names ps old → new ≡ map (ranked ranks) old
    → new
    ≡ filter_map (relocation_for sides.Code (texts ns)) (map fix_of ps)
    ++ filter_map (relocation_for sides.Data (texts ns)) (map fix_of ps)
all_ranked names ns ranks ps old new rise are (numbers, named, made) put =
    let part : (side : Section) → map (ranked ranks) (relocations_at side (map fix_of ps) numbers)
    ≡ filter_map (relocation_for side (texts ns)) (map fix_of ps) =
    λ side. relocations_ranked side names ns ranks ps numbers rise are named in
    put ∙ (ap (map (ranked ranks)) made ∙ (map-append (ranked ranks) (relocations_at sides.Code (map fix_of ps) numbers)
    (relocations_at sides.Data (map fix_of ps) numbers)
    ∙ (ap (λ l. l ++ map (ranked ranks) (relocations_at sides.Data (map fix_of ps) numbers)) (part sides.Code)
    ∙ ap (λ l. filter_map (relocation_for sides.Code (texts ns)) (map fix_of ps) ++ l) (part sides.Data))))
