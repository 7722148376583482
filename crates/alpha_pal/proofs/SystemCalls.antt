-- The cases of a system call.
use Rattle.std.proofs.Common.{◌≡◌, ◌≢◌, ℕ, ◌<◌, ◌≤◌, ◌↔◌, Bool, true, false, List, [], ◌++◌, length, take, drop, Option}
use Rattle.std.proofs.Common.{Some, None, IsTrue, refl, sym, ap, subst, ◌∙◌, ⊎_elim, arith, append-nil}
use Rattle.std.proofs.lemmas.Bool.{ne_eqb, false_from_ne_true, cases_lt}
use Rattle.std.proofs.lemmas.List.{take_at, drop_at, take_all}
use Rattle.std.specs.Io.KnownBytes.{Appends, Consumes}
use Rattle.std.proofs.KnownBytes.{Appends-nil}
use Rattle.alpha_io.specs.Supply.{Supply}
use Rattle.alpha_mem.specs.Intent.{Load, Store}
use Rattle.alpha_mem.specs.Block.{Block, shapes, within}
use Rattle.alpha_mem.specs.Memory.{bytes_at, write_bytes, IsLayout}
use Rattle.alpha_pal.specs.declared.serve.SystemCall.{SystemCall}
use Rattle.alpha_pal.specs.declared.serve.Answer.{Answer}
use Rattle.alpha_pal.specs.declared.serve.Answer.TheVariants.{Read, Wrote, Error, Exit}
use Rattle.alpha_pal.specs.Taken.{ReadsInto, TakesLess, NothingLeft}
use Rattle.alpha_pal.specs.Call.{Silent}
use Rattle.alpha_pal.specs.Call as traffics
use Rattle.alpha_pal.specs.Serve.{served, serve_read, serve_write, serve}
use Rattle.alpha_pal.specs.Passed.{IsPassed}
use Rattle.alpha_pal.specs.CallEffect.{Takes, ReadsTold, Reads, Serves, TakesPart, passed_by}
use Rattle.alpha_pal.proofs.InputTaken.{StandsAt-HasTaken}

-- ---- what the input has left

-- what is left of the input where it is told
pub rest_of : Option (List ℕ) → Option (List ℕ) → List ℕ
rest_of None now = []
rest_of (Some xs) None = []
rest_of (Some xs) (Some ys) = ys

Takes-consumed : (left now : Option (List ℕ)) (taken : List ℕ) → Consumes left now taken
    → Takes left now taken (rest_of left now)
unfolding rest_of
Takes-consumed None now taken h = tt
Takes-consumed (Some xs) None taken h = absurd h
Takes-consumed (Some xs) (Some ys) taken h = (h, refl)

-- nothing was read
told-silent : (left : Option (List ℕ)) → ReadsTold left Silent left
told-silent None = tt
told-silent (Some xs) = (refl, refl)

pub Reads-silent : (s : Supply) → Reads s Silent s
Reads-silent s = record { told = told-silent s.left; answers = refl }

told-wrote : (left : Option (List ℕ)) (bytes : List ℕ) → ReadsTold left (traffics.Wrote bytes) left
told-wrote None bytes = tt
told-wrote (Some xs) bytes = (refl, refl)

Reads-wrote : (s : Supply) (bytes : List ℕ) → Reads s (traffics.Wrote bytes) s
Reads-wrote s bytes = record { told = told-wrote s.left bytes; answers = refl }

-- what was taken is the front of as many bytes as were asked for
take-taken : (taken rest : List ℕ) (n : ℕ) → length taken ≤ n → (length taken < n → rest ≡ [])
    → take n (taken ++ rest) ≡ taken
take-taken taken rest n fits ended =
    ⊎_elim (λ (p : length taken < n). let whole : taken ++ rest ≡ taken =
    ap (λ l. taken ++ l) (ended p) ∙ append-nil taken in ap (take n) whole ∙ take_all n taken fits)
    (λ (p : n ≤ length taken). take_at taken rest n (omega arith)) (cases_lt (length taken) n)

told-read : (left now : Option (List ℕ)) (taken : List ℕ) (n : ℕ) → Consumes left now taken → length taken ≤ n
    → (length taken < n → NothingLeft left now) → ReadsTold left (traffics.Read n taken) now
told-read None now taken n h fits ended = tt
told-read (Some xs) None taken n h fits ended = absurd h
told-read (Some xs) (Some ys) taken n h fits ended = (
  sym (ap (take n) h ∙ take-taken taken ys n fits ended),
  ap Some (sym (ap (drop (length taken)) h ∙ drop_at taken ys (length taken) (omega arith))),
)

-- ---- which call it is

serve-exit : (r : SystemCall) (mem : List Block) (input : List ℕ) → r.number ≡ 1
    → serve r mem input ≡ served (Exit r.a0) mem Silent
unfolding serve
serve-exit r mem input e = rw e refl

serves-read : (r : SystemCall) (mem : List Block) (input : List ℕ) → r.number ≡ 3
    → serve r mem input ≡ serve_read r mem input
unfolding serve
serves-read r mem input e = rw e refl

serves-write : (r : SystemCall) (mem : List Block) (input : List ℕ) → r.number ≡ 4
    → serve r mem input ≡ serve_write r mem
unfolding serve
serves-write r mem input e = rw e refl

serve-none : (r : SystemCall) (mem : List Block) (input : List ℕ) → r.number ≢ 1 → r.number ≢ 3 → r.number ≢ 4
    → serve r mem input ≡ served (Error 78) mem Silent
unfolding serve
serve-none r mem input n1 n3 n4 = rw (ne_eqb r.number 1 n1, ne_eqb r.number 3 n3, ne_eqb r.number 4 n4) refl

-- ---- answers that change nothing

Serves-same : (r : SystemCall) (answer : Answer) (mem : List Block) (left : Supply) (written : Option (List ℕ))
    → IsPassed (passed_by r answer) mem [] [] → serve r mem [] ≡ served answer mem Silent
    → Serves r answer mem mem left left written written
Serves-same r answer mem left written passes same = record {
  traffic = Silent;
  is = same;
  fed = Reads-silent left;
  wrote = Appends-nil written;
  passes = passes;
}

pub Serves-exit : (r : SystemCall) (mem : List Block) → r.number ≡ 1 → (input : List ℕ)
    → serve r mem input ≡ served (Exit r.a0) mem Silent
Serves-exit r mem e input = serve-exit r mem input e

pub Serves-none : (r : SystemCall) (mem : List Block) (left : Supply) (written : Option (List ℕ)) → r.number ≢ 1
    → r.number ≢ 3 → r.number ≢ 4 → Serves r (Error 78) mem mem left left written written
Serves-none r mem left written n1 n3 n4 =
    Serves-same r (Error 78) mem left written (refl, refl) (serve-none r mem [] n1 n3 n4)

-- ---- read

read-descriptor : (r : SystemCall) (mem : List Block) (input : List ℕ) → r.a0 ≢ 0
    → serve_read r mem input ≡ served (Error 9) mem Silent
read-descriptor r mem input bad = rw (ne_eqb r.a0 0 bad) refl

read-range : (r : SystemCall) (mem : List Block) (input : List ℕ) → r.a0 ≡ 0
    → within (shapes mem) Store r.a1 r.a2 ≡ false → serve_read r mem input ≡ served (Error 14) mem Silent
read-range r mem input good bad = rw (good, bad) refl

read-good : (r : SystemCall) (mem : List Block) (input : List ℕ) → r.a0 ≡ 0 → within (shapes mem) Store r.a1 r.a2 ≡ true
    → serve_read r mem input
    ≡ served (Read (length (take r.a2 input))) (write_bytes mem r.a1 (take r.a2 input))
    (traffics.Read r.a2 (take r.a2 input))
read-good r mem input good range = rw (good, range) refl

pub read_bad_descriptor : (r : SystemCall) (mem : List Block) (left : Supply) (written : Option (List ℕ)) → r.number ≡ 3
    → r.a0 ≢ 0 → Serves r (Error 9) mem mem left left written written
read_bad_descriptor r mem left written number bad =
    Serves-same r (Error 9) mem left written (refl, refl)
    (serves-read r mem [] number ∙ read-descriptor r mem [] bad)

pub read_bad_range : (r : SystemCall) (mem : List Block) (left : Supply) (written : Option (List ℕ)) → r.number ≡ 3
    → r.a0 ≡ 0 → within (shapes mem) Store r.a1 r.a2 ≡ false → Serves r (Error 14) mem mem left left written written
read_bad_range r mem left written number good bad =
    Serves-same r (Error 14) mem left written (refl, refl)
    (serves-read r mem [] number ∙ read-range r mem [] good bad)

pub read_done : (r : SystemCall) (mem mem' : List Block) (left left' : Supply) (written : Option (List ℕ)) (n : ℕ)
    → IsLayout (shapes mem) → r.number ≡ 3 → r.a0 ≡ 0 → IsTrue (within (shapes mem) Store r.a1 r.a2)
    → ReadsInto mem mem' r.a1 n r.a2 left left' → n ≤ r.a2 → (n < r.a2 → NothingLeft left.left left'.left)
    → Serves r (Read n) mem mem' left left' written written
read_done r mem mem' left left' written n layout number good range reads fits ended =
    let h = reads.had in
    let there = StandsAt-HasTaken mem mem' r.a1 n r.a2 left.left left'.left layout range fits h in
    let bound : length h.taken ≤ r.a2 = omega (arith, h.count) in
    record {
      traffic = traffics.Read r.a2 h.taken;
      is = serves-read r mem h.taken number
          ∙ (read-good r mem h.taken good range
          ∙ (ap (λ l. served (Read (length l)) (write_bytes mem r.a1 l) (traffics.Read r.a2 l))
          (take_all r.a2 h.taken bound)
          ∙ (ap (λ k. served (Read k) (write_bytes mem r.a1 h.taken) (traffics.Read r.a2 h.taken)) (sym h.count)
          ∙ ap (λ m. served (Read n) m (traffics.Read r.a2 h.taken)) (sym h.there))));
      fed = record {
        told = told-read left.left left'.left h.taken r.a2 h.consumed bound (λ p. ended (omega (arith, h.count)));
        answers = reads.calls;
      };
      wrote = Appends-nil written;
      passes = (there.0, there.1, refl);
    }

pub read_failed : (r : SystemCall) (mem mem' : List Block) (left left' : Supply) → IsLayout (shapes mem)
    → r.number ≡ 3 → r.a0 ≡ 0 → IsTrue (within (shapes mem) Store r.a1 r.a2) → TakesLess mem mem' r.a1 r.a2 left left'
    → TakesPart r mem mem' left left'
read_failed r mem mem' left left' layout number good range h = record {
  layout = layout;
  number = number;
  descriptor = good;
  range = range;
  taken = h.first.taken;
  rest = rest_of left.left left'.left;
  took = Takes-consumed left.left left'.left h.first.taken h.first.consumed;
  less = omega (arith, h.first.count, h.less);
  there = h.first.there;
  calls = h.calls;
}

-- ---- write

write-descriptor : (r : SystemCall) (mem : List Block) → r.a0 ≢ 1 → serve_write r mem ≡ served (Error 9) mem Silent
write-descriptor r mem bad = rw (ne_eqb r.a0 1 bad) refl

write-range : (r : SystemCall) (mem : List Block) → r.a0 ≡ 1 → within (shapes mem) Load r.a1 r.a2 ≡ false
    → serve_write r mem ≡ served (Error 14) mem Silent
write-range r mem good bad = rw (good, bad) refl

write-good : (r : SystemCall) (mem : List Block) → r.a0 ≡ 1 → within (shapes mem) Load r.a1 r.a2 ≡ true
    → serve_write r mem ≡ served (Wrote r.a2) mem (traffics.Wrote (bytes_at mem r.a1 r.a2))
write-good r mem good range = rw (good, range) refl

pub write_bad_descriptor : (r : SystemCall) (mem : List Block) (left : Supply) (written : Option (List ℕ))
    → r.number ≡ 4 → r.a0 ≢ 1 → Serves r (Error 9) mem mem left left written written
write_bad_descriptor r mem left written number bad =
    Serves-same r (Error 9) mem left written (refl, refl)
    (serves-write r mem [] number ∙ write-descriptor r mem bad)

pub write_bad_range : (r : SystemCall) (mem : List Block) (left : Supply) (written : Option (List ℕ)) → r.number ≡ 4
    → r.a0 ≡ 1 → within (shapes mem) Load r.a1 r.a2 ≡ false → Serves r (Error 14) mem mem left left written written
write_bad_range r mem left written number good bad =
    Serves-same r (Error 14) mem left written (refl, refl)
    (serves-write r mem [] number ∙ write-range r mem good bad)

pub write_done : (r : SystemCall) (mem : List Block) (left : Supply) (written written' : Option (List ℕ))
    (bytes : List ℕ)
    → r.number ≡ 4 → r.a0 ≡ 1 → IsTrue (within (shapes mem) Load r.a1 r.a2) → bytes ≡ bytes_at mem r.a1 r.a2
    → Appends written written' bytes → Serves r (Wrote r.a2) mem mem left left written written'
write_done r mem left written written' bytes number good range these wrote = record {
  traffic = traffics.Wrote (bytes_at mem r.a1 r.a2);
  is = serves-write r mem [] number ∙ write-good r mem good range;
  fed = Reads-wrote left (bytes_at mem r.a1 r.a2);
  wrote = subst (Appends written written') these wrote;
  passes = (range, refl, refl);
}

-- a test that isn't true where another isn't
pub IsTrue-false_iff : (b w : Bool) → (IsTrue b ↔ IsTrue w) → b ≡ false → w ≡ false
IsTrue-false_iff b w same fails = false_from_ne_true w (λ h. let e = same.1 h in cc)
