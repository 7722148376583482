-- The names: a search in rows that are in the order of their names, and which row a name is of.
use Rattle.std.proofs.Common.{◌≡◌, ◌≢◌, ℕ, zero, suc, ◌<◌, ◌≤◌, Bool, true, false, Some, List, [], ◌∷◌, ◌++◌, length}
use Rattle.std.proofs.Common.{get_or, find, cond, ⊎_elim, refl, ap, subst, arith}
use Rattle.std.specs.List.{All}
use Rattle.std.specs.List.Sorted.{IsNonDecreasingBy, IsPartitionPoint}
use Rattle.std.specs.Cmp.Lexicographic.{slice_cmp}
use Rattle.std.specs.Ordering.{nat_cmp, ordering_index, is_lt, is_gt}
use Rattle.std.specs.declared.cmp.Ordering.{Ordering}
use Rattle.std.specs.declared.cmp.Ordering.TheVariants.{Less, Equal, Greater}
use Rattle.std.proofs.lemmas.Bool.{cases_lt, and_parts}
use Rattle.std.proofs.lemmas.Cmp.{nat_list_cmp_total, tied_itself, upto}
use Rattle.alpha_table.specs.declared.names.Mnemonic.{Mnemonic}
use Rattle.std.proofs.lemmas.List.Elements.{All-append}
use Rattle.std.specs.Str.{bytes_eq}
use Rattle.alpha_table.specs.declared.names.Mnemonic.TheVariants.{Mem, Branch, Jump, Operate, Misc, Fetch, Pal}
use Rattle.alpha_table.specs.declared.operate.TheConstants.{OPERATES}
use Rattle.alpha_table.specs.declared.formats.TheConstants.{MEMORIES, BRANCHES, JUMPS, MISCS, FETCHES, PAL_CALLS}
use Rattle.alpha_table.specs.Names.{name_of, ascends}
use Rattle.alpha_table.proofs.Lookups.{with_name, operate_known, memory_known, branch_known, jump_known, misc_known}
use Rattle.alpha_table.proofs.Lookups.{fetch_known, pal_known}

abbrev names-order : List ℕ → List ℕ → Ordering
names-order = slice_cmp nat_cmp

is_lt-Less : (o : Ordering) → is_lt o ≡ true → o ≡ Less
is_lt-Less Less h = refl
is_lt-Less Equal h = cc
is_lt-Less Greater h = cc

-- a row comes before each later one
below_all : (m : Mnemonic) (rows : List Mnemonic) → ascends (m ∷ rows) ≡ true → (k : ℕ) (d : Mnemonic) → k < length rows
    → names-order (name_of m) (name_of (get_or rows k d)) ≡ Less
below_all m [] h k d inside = absurd (omega arith)
below_all m (n ∷ rest) h zero d inside =
    is_lt-Less _ (and_parts (is_lt (names-order (name_of m) (name_of n))) (ascends (n ∷ rest)) h).0
below_all m (n ∷ rest) h (suc k) d inside =
    let parts = and_parts (is_lt (names-order (name_of m) (name_of n))) (ascends (n ∷ rest)) h in
    nat_list_cmp_total.trans (name_of m) (name_of n) (name_of (get_or rest k d)) (is_lt-Less _ parts.0)
    (below_all n rest parts.1 k d (omega arith))

tail_ascends : (m : Mnemonic) (rows : List Mnemonic) → ascends (m ∷ rows) ≡ true → ascends rows ≡ true
tail_ascends m [] h = refl
tail_ascends m (n ∷ rest) h = (and_parts (is_lt (names-order (name_of m) (name_of n))) (ascends (n ∷ rest)) h).1

-- of two names in order, the first compares no higher
no_higher : (x y z : List ℕ) → names-order x y ≡ Less
    → ordering_index (names-order x z) ≤ ordering_index (names-order y z)
no_higher x y z h = cases (names-order y z) refl
  where
    equal : (o : Ordering) → is_gt o ≡ false → ordering_index o ≤ 1
    equal Less e = omega arith
    equal Equal e = omega arith
    equal Greater e = cc

    any : (o : Ordering) → ordering_index o ≤ 2
    any Less = omega arith
    any Equal = omega arith
    any Greater = omega arith

    cases : (o : Ordering) → names-order y z ≡ o → ordering_index (names-order x z) ≤ ordering_index o
    cases Less e = rw (nat_list_cmp_total.trans x y z h e) (omega arith)
    cases Equal e = equal (names-order x z) (upto nat_list_cmp_total x y z (ap is_gt h) (ap is_gt e))
    cases Greater e = any (names-order x z)

pub names-rise : (rows : List Mnemonic) → ascends rows ≡ true → (name : List ℕ)
    → IsNonDecreasingBy (λ m. ordering_index (names-order (name_of m) name)) rows
names-rise [] h name i j d below inside = absurd (omega arith)
names-rise (m ∷ rows) h name zero zero d below inside = omega arith
names-rise (m ∷ rows) h name zero (suc j) d below inside =
    no_higher (name_of m) (name_of (get_or rows j d)) name (below_all m rows h j d (omega arith))
names-rise (m ∷ rows) h name (suc i) zero d below inside = absurd (omega arith)
names-rise (m ∷ rows) h name (suc i) (suc j) d below inside =
    names-rise rows (tail_ascends m rows h) name i j d (omega arith) (omega arith)

-- a row that isn't equal has another name
pub name_of-not_equal : (m : Mnemonic) (name : List ℕ) → names-order (name_of m) name ≢ Equal → name_of m ≢ name
name_of-not_equal m name apart same =
    apart (subst (λ n. names-order (name_of m) n ≡ Equal) same (tied_itself nat_list_cmp_total (name_of m)))

pub name_of-none_equal : (rows : List Mnemonic) (name : List ℕ) (i : ℕ)
    → IsPartitionPoint (λ m. names-order (name_of m) name ≡ Less) (λ m. names-order (name_of m) name ≡ Greater) rows i
    → All (λ m. name_of m ≢ name) rows
name_of-none_equal rows name i h k d inside =
    ⊎_elim (λ (p : k < i). name_of-not_equal _ name (λ e. let less = h.0 k d (omega arith) p in cc))
    (λ (p : i ≤ k). name_of-not_equal _ name (λ e. let more = h.1 k d p inside in cc)) (cases_lt k i)

-- each row is found by its name
found_row : (m : Mnemonic) → with_name (name_of m) ≡ Some m
found_row (Operate op) = (operate_known op).2
found_row (Mem op) = (memory_known op).2
found_row (Branch op) = (branch_known op).2
found_row (Jump kind) = (jump_known kind).2
found_row (Misc op) = (misc_known op).2
found_row (Fetch modify) = (fetch_known modify).2
found_row (Pal call) = (pal_known call).2

-- no two rows have one name
pub name_of-injective : (m n : Mnemonic) → name_of m ≡ name_of n → m ≡ n
name_of-injective m n e = let a = found_row m in let b = found_row n in let c = ap with_name e in cc

-- what holds of all holds of one that is found
all_found : (P : Mnemonic → Type 0) (q : Mnemonic → Bool) (rows : List Mnemonic) (m : Mnemonic) → All P rows
    → find q rows ≡ Some m → P m
all_found P q [] m all found = cc
all_found P q (x ∷ rows) m all found =
    cases (q x) found (all_found P q rows m (λ k d inside. all (suc k) d (omega arith)))
  where
    cases : (b : Bool) → cond b (Some x) (find q rows) ≡ Some m → (find q rows ≡ Some m → P m) → P m
    cases true e later = let same : x ≡ m = cc in subst P same (all 0 x (omega arith))
    cases false e later = later e

-- a name that no list has is no instruction's
pub name_of-in_no_list : (name : List ℕ) → let P : Mnemonic → Type 0 = λ m. name_of m ≢ name in
    All P OPERATES → All P MEMORIES → All P BRANCHES → All P JUMPS → All P MISCS → All P FETCHES → All P PAL_CALLS
    → (m : Mnemonic) → name_of m ≢ name
name_of-in_no_list name a b c d e f g m =
    let P : Mnemonic → Type 0 = λ m. name_of m ≢ name in
    let misc = FETCHES ++ PAL_CALLS in
    let jumps = MISCS ++ misc in
    let branches = JUMPS ++ jumps in
    let memories = BRANCHES ++ branches in
    let others = MEMORIES ++ memories in
    let all = All-append P OPERATES others a (All-append P MEMORIES memories b (All-append P BRANCHES branches c
    (All-append P JUMPS jumps d (All-append P MISCS misc e (All-append P FETCHES PAL_CALLS f g))))) in
    all_found P (λ n. bytes_eq (name_of n) (name_of m)) (OPERATES ++ others) m all (found_row m)
