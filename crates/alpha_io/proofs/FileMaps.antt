-- A shelf's map of vectors as a map of files.
use Rattle.std.proofs.Common.{◌≡◌, ◌≢◌, ℕ, Bool, true, false, cond, List, [], ◌∷◌, map, Option, Some, option_map}
use Rattle.std.proofs.Common.{String, Vec, Global, BTreeMap, string_bytes, string_cmp, bytes_eq, sym, refl, ap, ◌∙◌}
use Rattle.std.proofs.Common.{is_eq, nat_cmp}
use Rattle.std.specs.FinMap.{get, insert, find, get-insert, get-from_entries, same_map, nat_cmp-IsAntisymmetric}
use Rattle.std.specs.FinMap.{slice_cmp-IsAntisymmetric}
use Rattle.std.specs.Cmp.Lexicographic.{slice_cmp, nat_list_cmp_total, nat_list_eq_equiv, bytes_decides}
use Rattle.std.specs.Map.{lookup}
use Rattle.std.specs.BTreeMap.{UpdatesBy, get_by_text}
use Rattle.std.proofs.lemmas.Map.Text.{btree_map_updates_text, is_eq-slice_cmp}
use Rattle.std.proofs.lemmas.Bool.{false_from_ne_true}
use Rattle.alpha_io.specs.ShelfState.{FileMap, file_map}

abbrev Entries : Type 0
Entries = List (String Global × Vec ℕ Global)

find-files : (q : List ℕ) (es : Entries)
    → find (slice_cmp nat_cmp) q (map (λ e. (string_bytes e.0, e.1.items)) es)
    ≡ option_map (λ v. v.items) (lookup (λ k. is_eq (slice_cmp nat_cmp q (string_bytes k))) es)
find-files q [] = refl
find-files q (e ∷ es) =
    let rest = find-files q es in
    elim (is_eq (slice_cmp nat_cmp q (string_bytes e.0))) as (λ b.
    cond b (Some e.1.items) (find (slice_cmp nat_cmp) q (map (λ d. (string_bytes d.0, d.1.items)) es))
    ≡ option_map (λ v. v.items) (cond b (Some e.1) (lookup (λ k. is_eq (slice_cmp nat_cmp q (string_bytes k))) es)))
    [ true ↦ refl | false ↦ rest ]

pub get-file_map : (m : BTreeMap (String Global) (Vec ℕ Global)) (q : List ℕ)
    → get (file_map m.entries) q ≡ option_map (λ v. v.items) (get_by_text m q)
get-file_map m q = get-from_entries nat_list_cmp_total _ q ∙ find-files q m.entries

-- the bytes of a look-up that has just been updated
update-items : (b : Bool) (v : Vec ℕ Global) (o : Option (Vec ℕ Global))
    → option_map (λ w. w.items) (cond b (Some v) o) ≡ cond b (Some v.items) (option_map (λ w. w.items) o)
update-items true v o = refl
update-items false v o = refl

-- a vector stored under a name is a file kept under it
pub file_map-stored : (m n : BTreeMap (String Global) (Vec ℕ Global)) (name : List ℕ) (v : Vec ℕ Global)
    → UpdatesBy string_cmp (λ k. slice_cmp nat_cmp name (string_bytes k)) m n (Some v)
    → file_map n.entries ≡ insert (file_map m.entries) name v.items
file_map-stored m n name v updates =
    same_map nat_list_cmp_total (slice_cmp-IsAntisymmetric nat_cmp-IsAntisymmetric) _ _ (λ q.
    let new = ap (option_map (λ w. w.items)) (btree_map_updates_text name m n (Some v) updates q) in
    let same : bytes_eq name q ≡ is_eq (slice_cmp nat_cmp q name) =
    nat_list_eq_equiv.symm name q ∙ sym (is_eq-slice_cmp q name) in
    get-file_map n q ∙ new ∙ update-items (bytes_eq name q) v (get_by_text m q)
    ∙ ap (λ b. cond b (Some v.items) (option_map (λ w. w.items) (get_by_text m q))) same
    ∙ ap (cond (is_eq (slice_cmp nat_cmp q name)) (Some v.items)) (sym (get-file_map m q))
    ∙ sym (get-insert nat_list_cmp_total (file_map m.entries) name v.items q))

same_name : (name : List ℕ) → is_eq (slice_cmp nat_cmp name name) ≡ true
same_name name = is_eq-slice_cmp name name ∙ (bytes_decides name name).1 refl

other_name : (other name : List ℕ) → other ≢ name → is_eq (slice_cmp nat_cmp other name) ≡ false
other_name other name differs =
    is_eq-slice_cmp other name
    ∙ false_from_ne_true (bytes_eq other name) (λ same. differs ((bytes_decides other name).0 same))

pub get-insert_same : (m : FileMap) (name bytes : List ℕ) → get (insert m name bytes) name ≡ Some bytes
get-insert_same m name bytes =
    get-insert nat_list_cmp_total m name bytes name ∙ ap (λ b. cond b (Some bytes) (get m name)) (same_name name)

pub get-insert_other : (m : FileMap) (name bytes other : List ℕ) → other ≢ name
    → get (insert m name bytes) other ≡ get m other
get-insert_other m name bytes other differs =
    get-insert nat_list_cmp_total m name bytes other
    ∙ ap (λ b. cond b (Some bytes) (get m other)) (other_name other name differs)
