-- The length of a string, a byte of its text after the other.
use Rattle.std.proofs.Common.{◌≡◌, ℕ, List, [], ◌∷◌, ◌≤◌, ◌<◌, ◌+◌, ◌-◌, false, eqb, Option, None, Some, drop, length}
use Rattle.std.proofs.Common.{length-drop, refl, ◌∙◌, ap, arith}
use Prim.Native.Nat.{zero, suc}
use Rattle.std.specs.Option.{option_map}
use Rattle.alpha_token.specs.Quoted.{byte_at, first_byte, is_closed, quoted_len}

pub option_map-some : {A B : Type 0} (f : A → B) (o : Option A) (y : B) → option_map f o ≡ Some y
    → (x : A) × (o ≡ Some x) × (f x ≡ y)
option_map-some f None y e = cc
option_map-some f (Some x) y e = (x, refl, cc)

option_map-fused : (f g h : ℕ → ℕ) → ((n : ℕ) → g (f n) ≡ h n) → (o : Option ℕ)
    → option_map g (option_map f o) ≡ option_map h o
option_map-fused f g h same None = refl
option_map-fused f g h same (Some n) = ap Some (same n)

option_map-suc_add : (k : ℕ) (o : Option ℕ) → option_map suc (option_map (λ n. n + k) o) ≡ option_map (λ n. n + suc k) o
option_map-suc_add k None = refl
option_map-suc_add k (Some n) = ap Some (omega arith)

grown-zero : (o : Option ℕ) → o ≡ option_map (λ n. n + 0) o
grown-zero None = refl
grown-zero (Some n) = ap Some (omega arith)

pub quoted_len-skip : (k : ℕ) (s : List ℕ) → quoted_len k s ≡ option_map (λ n. n + k) (quoted_len 0 (drop k s))
quoted_len-skip zero [] = refl
quoted_len-skip (suc k) [] = refl
quoted_len-skip zero (b ∷ s) = grown-zero (quoted_len 0 (b ∷ s))
quoted_len-skip (suc k) (b ∷ s) =
    ap (option_map suc) (quoted_len-skip k s) ∙ option_map-suc_add k (quoted_len 0 (drop k s))

-- behind the first byte of the text
quoted_len-step : (b : ℕ) (s : List ℕ) (v : ℕ × ℕ) → eqb b 34 ≡ false → byte_at (b ∷ s) ≡ Some v
    → quoted_len 0 (b ∷ s) ≡ option_map (λ n. n + suc v.1) (quoted_len 0 (drop v.1 s))
quoted_len-step b s v plain at =
    rw (plain, at, quoted_len-skip v.1 s) (option_map-suc_add v.1 (quoted_len 0 (drop v.1 s)))

option_map-sums : (whole left more : ℕ) (rest : List ℕ) → suc left ≤ whole → length rest ≡ left - more →
    option_map (λ n. n + (whole - suc left)) (option_map (λ n. n + suc more) (quoted_len 0 rest))
    ≡ option_map (λ n. n + (whole - length rest)) (quoted_len 0 rest)
option_map-sums whole left more [] within size = refl
option_map-sums whole left more (r ∷ rest) within size =
    let rate : (n : ℕ) → n + suc more + (whole - suc left) ≡ n + (whole - suc (length rest)) = λ n. omega arith in
    option_map-fused _ _ _ rate (quoted_len 0 (r ∷ rest))

-- what is passed over before, and the first byte of the rest
pub quoted_len-more : (text s rest : List ℕ) (value : ℕ) → is_closed s ≡ false
    → first_byte s ≡ Some (value, rest) → length rest < length s → length s ≤ length text
    → quoted_len 0 text ≡ option_map (λ n. n + (length text - length s)) (quoted_len 0 s) →
    quoted_len 0 text ≡ option_map (λ n. n + (length text - length rest)) (quoted_len 0 rest)
quoted_len-more text [] rest value h found shorter within so_far = absurd (omega arith)
quoted_len-more text (b ∷ s) rest value h found shorter within so_far =
    let (v, at, e) = option_map-some _ (byte_at (b ∷ s)) (value, rest) found in
    let same : drop v.1 s ≡ rest = ap (λ (p : ℕ × List ℕ). p.1) e in
    so_far ∙ ap (option_map (λ n. n + (length text - length (b ∷ s)))) (quoted_len-step b s v h at)
    ∙ option_map-sums (length text) (length s) v.1 (drop v.1 s) within (length-drop v.1 s)
    ∙ ap (λ r. option_map (λ n. n + (length text - length r)) (quoted_len 0 r)) same
