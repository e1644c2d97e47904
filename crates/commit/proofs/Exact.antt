-- Words are those of the state that they hold. Assumes nothing.
use Prim.Native.Nat.{ℕ, ◌≤◌, ◌<◌}
use mathlib.Core.Path.{◌≡◌, ◌∙◌, sym}
use mathlib.Core.Logic.{◌≢◌}
use mathlib.Core.List.{List}
use native.Mathlib.Omega.{arith}
use native.Mathlib.Decide.{ℕ_discrete}
use lib.ListN.{length}
use lib.Seq.{ext_get_or}
use mir.Syntax.{w32}
use mir.Val.{Fits}
use borrow.Author.Tests.{ne_eqb}
use Rattle.ints.proofs.Laws.{word_int}
use Rattle.words.specs.Words.{word, set_word}
use Rattle.words.proofs.Laws.{set_size, word_other, word_same}
use Rattle.heap.specs.Words.{value_of, tag_of, number_of, self_held, program_held, position, end_mark, set_self, set_program, set_position, set_end_mark}
use Rattle.word_store.specs.Store.{clear_header}
use Rattle.word_store.specs.State.{store_held, state_held}
use Rattle.word_store.proofs.Header.{clear_local, clear_size}
use Rattle.commit.specs.Words.{heap_of, WordsExact}

-- ---- A value that is read and written again

module _ (t n : ℕ) (few : t ≤ 4) (fit : Fits w32 n) where
  record Again : Type 0 where
    tag : tag_of (value_of t n) ≡ t
    number : number_of (value_of t n) ≡ n

  again : Again
  unfolding value_of
  again = go (ℕ_discrete t 0) (ℕ_discrete t 1) (ℕ_discrete t 2) (ℕ_discrete t 3)
    where
      go : Dec (t ≡ 0) → Dec (t ≡ 1) → Dec (t ≡ 2) → Dec (t ≡ 3) → Again
      go (yes a) b c d = record { tag = rw a; number = rw a (word_int n fit) }
      go (no a) (yes b) c d = record { tag = rw b; number = rw b }
      go (no a) (no b) (yes c) d = record { tag = rw c; number = rw c }
      go (no a) (no b) (no c) (yes d) = record { tag = rw d; number = rw d }
      go (no a) (no b) (no c) (no d) = record {
        tag = rw (ne_eqb t 0 a, ne_eqb t 1 b, ne_eqb t 2 c, ne_eqb t 3 d) (omega arith);
        number = rw (ne_eqb t 0 a, ne_eqb t 1 b, ne_eqb t 2 c, ne_eqb t 3 d);
      }

-- ---- The header, word by word

module _ (h g : List ℕ) (size : length g ≡ 16384) (same_size : length g ≡ length h) (past : (k : ℕ) → 6 ≤ k → word g k ≡ word h k) where
  refilled : set_word (set_word (set_word (set_word (set_word (set_word g 0 (word h 0)) 1 (word h 1)) 2 (word h 2)) 3 (word h 3)) 4 (word h 4)) 5 (word h 5) ≡ h
  unfolding word
  refilled = ext_get_or 0 _ h (simp set_size same_size) (λ k lt. all k)
    where
      at : (k : ℕ) (l : List ℕ) (j : ℕ) → j < length l → (k ≢ j → word l k ≡ word h k) → word (set_word l j (word h j)) k ≡ word h k
      at k l j jl r = go (ℕ_discrete k j)
        where
          go : Dec (k ≡ j) → word (set_word l j (word h j)) k ≡ word h k
          go (yes e) = rw e (word_same l j (word h j) jl)
          go (no ne) = word_other l j k (word h j) _ ne (r ne)

      all : (k : ℕ) → word (set_word (set_word (set_word (set_word (set_word (set_word g 0 (word h 0)) 1 (word h 1)) 2 (word h 2)) 3 (word h 3)) 4 (word h 4)) 5 (word h 5)) k ≡ word h k
      all k =
          at k _ 5 (simp set_size (omega arith)) (λ n5. at k _ 4 (simp set_size (omega arith)) (λ n4. at k _ 3 (simp set_size (omega arith)) (λ n3.
          at k _ 2 (simp set_size (omega arith)) (λ n2. at k _ 1 (simp set_size (omega arith)) (λ n1. at k g 0 (omega arith) (λ n0. past k (omega arith)))))))

pub words_exact : WordsExact
unfolding heap_of state_held store_held set_self set_program set_position set_end_mark self_held program_held position end_mark
words_exact remaining-from h t size fit tagged =
    let s = again (word h 0) (word h 1) tagged.self (fit.fits 1) in
    let u = again (word h 2) (word h 3) tagged.program (fit.fits 3) in
    sym (rw (s.tag, s.number, u.tag, u.number)
    (refilled h (clear_header h) (clear_size h ∙ size) (clear_size h) (λ k le. (clear_local h).away k (λ lo hi. omega arith))))
