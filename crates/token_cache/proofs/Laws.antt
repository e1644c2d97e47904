-- Document 01, "Tokens and grammar": an entry of the cache is the token that was stored there, and has the note that was. Assumes nothing.
use mathlib.Core.Path.{◌≡◌, refl, ap, sym, ◌∙◌, subst}
use mathlib.Core.Bool.{Bool, true, false, ◌&&◌}
use mathlib.Core.List.{List}
use mathlib.Core.Logic.{◌⊎◌, inl, inr}
use native.Mathlib.Omega.{arith}
use native.Mathlib.Decide.{ℕ_discrete, dec_le}
use Prim.Native.Nat.{ℕ, suc, ◌/◌, ◌%◌, ◌<◌, ◌≤◌}
use borrow.Author.Tests.{lt-ltb, le-ltb, eq-eqb, ne_eqb, eqb-true, eqb-false, ltb-true}
use lib.Dec.{eqb, ltb}
use lib.ListN.{length, set, replicate, length-replicate, get_or-replicate}
use Rattle.framed.specs.Common.{when◌then◌else◌}
use Rattle.framed.specs.Bytes.{class}
use Rattle.words.specs.Words.{word, set_word}
use Rattle.words.proofs.Laws.{word_past, word_other, word_same, set_size, set_past}
use Rattle.token.specs.Reading.{TokenAt, Spot}
use Rattle.token.specs.declared.TokenRead.{TokenRead}
use Rattle.token.proofs.Answers.{spot_of}
use Rattle.token_cache.specs.Cache.{packed, held, note_of, note_at, unpacked, Small, Packs, with_entry, Cached, CanStore, CanEnd, NotesFrom, Unnoted}

kind_back : (k a p w : ℕ) → Small k a p w → packed k a p w % 32 ≡ k
unfolding packed
kind_back k a p w h = omega (arith, h.kind)

begin_back : (k a p w : ℕ) → Small k a p w → packed k a p w / 32 % 32768 ≡ a
unfolding packed
begin_back k a p w h = omega (arith, h.kind, h.begin)

end_back : (k a p w : ℕ) → Small k a p w → packed k a p w / 1048576 % 32768 ≡ p
unfolding packed
end_back k a p w h = omega (arith, h.kind, h.begin, h.end)

word_back : (k a p w : ℕ) → Small k a p w → packed k a p w / 34359738368 % 536870912 ≡ w
unfolding packed
word_back k a p w h = omega (arith, h.kind, h.begin, h.end, h.word_small)

-- what is packed comes back: the last part as an integer's word or as a name's note
held_back : (k a p w : ℕ) → Small k a p w → held (packed k a p w) ≡ TokenRead.Token k a p (when eqb k 26 then w else 0)
unfolding held
held_back k a p w h = rw (kind_back k a p w h, begin_back k a p w h, end_back k a p w h, word_back k a p w h)

note_back : (k a p w : ℕ) → Small k a p w → note_of (packed k a p w) ≡ (when eqb k 25 then w else 0)
unfolding note_of
note_back k a p w h = rw (kind_back k a p w h, word_back k a p w h)

-- only an integer has a word, so no name has one
no_word : (k w : ℕ) → ((k ≡ 26 → ⊥) → w ≡ 0) → (when eqb k 25 then w else 0) ≡ 0
no_word k w plain = go (eqb k 25) refl
  where
    go : (t : Bool) → eqb k 25 ≡ t → (when t then w else 0) ≡ 0
    go true h = plain (λ z. absurd (omega (arith, eqb-true k 25 h)))
    go false h = refl

-- the last part of an entry, where its kind is k
pub last_there : (e k : ℕ) → e % 32 ≡ k → e / 34359738368 % 536870912 ≡ (when eqb (e % 32) k then e / 34359738368 % 536870912 else 0)
last_there e k h = rw (eq-eqb (e % 32) k h)

pub last_none : (e k : ℕ) → (e % 32 ≡ k → ⊥) → 0 ≡ (when eqb (e % 32) k then e / 34359738368 % 536870912 else 0)
last_none e k h = rw (ne_eqb (e % 32) k h)

above : (e : ℕ) → 31 < e → unpacked e ≡ held e
unfolding unpacked
above e l = rw (lt-ltb 31 e l)

large : (k a p w : ℕ) → a < p → 31 < packed k a p w
unfolding packed
large k a p w l = omega arith

-- ---- An entry is set

module _ (c : List ℕ) (at k a p x : ℕ) where
  pub set_far : 16384 ≤ at → c ≡ with_entry c at k a p x
  unfolding with_entry
  set_far l = rw (le-ltb at 16384 l)

  module _ (lt : at < 16384) where
    pub set_long : 32768 ≤ p → c ≡ with_entry c at k a p x
    unfolding with_entry
    set_long l = rw (lt-ltb at 16384 lt, le-ltb p 32768 l)

    module _ (end : p < 32768) where
      pub set_large : 536870912 ≤ x → c ≡ with_entry c at k a p x
      unfolding with_entry
      set_large l = rw (lt-ltb at 16384 lt, lt-ltb p 32768 end, le-ltb x 536870912 l)

      module _ (small : x < 536870912) where
        pub set_small : Packs k a p → Small k a p x
        set_small h = record { kind = h.kind; begin = omega (arith, h.order); end = end; word_small = small }

        pub set_here : (e : ℕ) → e ≡ packed k a p x → set c at e ≡ with_entry c at k a p x
        unfolding with_entry set_word
        set_here e is = rw (lt-ltb at 16384 lt, lt-ltb p 32768 end, lt-ltb x 536870912 small, is)

-- an entry that stands for what is at its position
kept : (c s : List ℕ) (at e : ℕ) → Cached c s → at < 16384 → TokenAt class s at (unpacked e) → Cached (set c at e) s
unfolding set_word
kept c s at e h lt read = record { entries = set_size c at e ∙ h.entries; rule = rule }
  where
    rule : (j : ℕ) → (word (set_word c at e) j ≡ 0 → ⊥) → TokenAt class s j (unpacked (word (set_word c at e) j))
    rule j some = go (ℕ_discrete j at)
      where
        go : Dec (j ≡ at) → TokenAt class s j (unpacked (word (set_word c at e) j))
        go (yes q) =
            subst (λ i. TokenAt class s i (unpacked (word (set_word c at e) i))) (sym q)
            (subst (λ x. TokenAt class s at (unpacked x)) (sym (word_same c at e (omega (arith, h.entries)))) read)
        go (no ne) =
            let same : word (set_word c at e) j ≡ word c j = word_other c at j e (word c j) ne refl in
            subst (λ x. TokenAt class s j (unpacked x)) (sym same) (h.rule j (λ z. some (same ∙ z)))

-- an entry with the note g
noted : (c : List ℕ) (at e g : ℕ) → at < length c → note_of e ≡ g → NotesFrom c (set c at e) at g
unfolding set_word note_at
noted c at e g lt is = record { from = λ j h n. go j h n (ℕ_discrete j at) }
  where
    go : (j h : ℕ) → note_at (set_word c at e) j ≡ suc h → Dec (j ≡ at) → (note_at c j ≡ suc h) ⊎ ((j ≡ at) × (g ≡ suc h))
    go j h n (yes q) = inr (q, sym is ∙ ap note_of (sym (ap (word (set_word c at e)) q ∙ word_same c at e lt)) ∙ n)
    go j h n (no ne) = inl (ap note_of (sym (word_other c at j e (word c j) ne refl)) ∙ n)

-- no entry is set
pub notes_same : (c : List ℕ) (at g : ℕ) → NotesFrom c c at g
notes_same c at g = record { from = λ j h n. inl n }

-- the entry of a token
entry_is : (k a p w : ℕ) → a < p → Small k a p w → unpacked (packed k a p w) ≡ TokenRead.Token k a p (when eqb k 26 then w else 0)
entry_is k a p w l small = above (packed k a p w) (large k a p w l) ∙ held_back k a p w small

no_integer : {x w : ℕ} → ◌≡◌ {A = ℕ} 25 26 → x ≡ w
no_integer z = absurd (omega arith)

-- ---- What `store` and `store_name` need and leave

module _ (c s : List ℕ) (at k a p w : ℕ) (h : CanStore c s at k a p w) where
  spot : Spot at (length s) k a p
  spot = spot_of (TokenRead.Token k a p w) h.read.on refl

  pub store_packs : Packs k a p
  store_packs = record { kind = omega (arith, spot.known); order = spot.more }

  -- with x as the last part: an integer's is its word
  module _ (x : ℕ) (integer : k ≡ 26 → x ≡ w) where
    last_word : (when eqb k 26 then x else 0) ≡ w
    last_word = go (eqb k 26) refl
      where
        go : (t : Bool) → eqb k 26 ≡ t → (when t then x else 0) ≡ w
        go true q = integer (eqb-true k 26 q)
        go false q = sym (h.read.plain refl (eqb-false k 26 q))

    record Sets (c' : List ℕ) : Type 0 where
      cached : Cached c' s
      notes : NotesFrom c c' at (when eqb k 25 then x else 0)

    sets : (c' : List ℕ) → c' ≡ with_entry c at k a p x → Sets c'
    unfolding with_entry set_word
    sets c' = go (ltb at 16384) (ltb p 32768) (ltb x 536870912) refl refl refl
      where
        same : c' ≡ c → Sets c'
        same q = record { cached = rw q h.cached; notes = rw q (notes_same c at (when eqb k 25 then x else 0)) }

        go : (t u v : Bool) → ltb at 16384 ≡ t → ltb p 32768 ≡ u → ltb x 536870912 ≡ v → c' ≡ (when t && (u && v) then set_word c at (packed k a p x) else c) → Sets c'
        go true true true et eu ev q =
            let small : Small k a p x = record { kind = omega (arith, spot.known); begin = omega (arith, spot.more, ltb-true p 32768 eu); end = ltb-true p 32768 eu; word_small = ltb-true x 536870912 ev } in
            rw q (record {
              cached = kept c s at (packed k a p x) h.cached (ltb-true at 16384 et) (subst (TokenAt class s at) (sym (entry_is k a p x spot.more small ∙ ap (TokenRead.Token k a p) last_word)) h.read);
              notes = noted c at (packed k a p x) (when eqb k 25 then x else 0) (omega (arith, h.cached.entries, ltb-true at 16384 et)) (note_back k a p x small);
            })
        go true true false et eu ev q = same q
        go true false v et eu ev q = same q
        go false u v et eu ev q = same q

  module _ (c' : List ℕ) (is : c' ≡ with_entry c at k a p w) where
    pub stored : Cached c' s
    stored = (sets w (λ q. refl) c' is).cached

    pub stored_notes : NotesFrom c c' at 0
    stored_notes = subst (NotesFrom c c' at) (no_word k w (h.read.plain refl)) (sets w (λ q. refl) c' is).notes

module _ (c s : List ℕ) (at a p w g : ℕ) (h : CanStore c s at 25 a p w) (c' : List ℕ) (is : c' ≡ with_entry c at 25 a p g) where
  name_sets : Sets c s at 25 a p w h g no_integer c'
  name_sets = sets c s at 25 a p w h g no_integer c' is

  pub name_stored : Cached c' s
  name_stored = name_sets.cached

  pub name_notes : NotesFrom c c' at g
  name_notes = name_sets.notes

pub end_far : (c s : List ℕ) (at : ℕ) → CanEnd c s at → 16384 ≤ at → c ≡ set_word c at 31
end_far c s at h l = set_past c at 31 (omega (arith, h.cached.entries))

pub stored_end : (c s : List ℕ) (at : ℕ) → CanEnd c s at → at < 16384 → Cached (set c at 31) s
unfolding unpacked
stored_end c s at h lt = kept c s at 31 h.cached lt h.read

pub end_notes : (c s : List ℕ) (at : ℕ) → CanEnd c s at → at < 16384 → NotesFrom c (set c at 31) at 0
unfolding note_of
end_notes c s at h lt = noted c at 31 0 (omega (arith, h.cached.entries)) refl

-- ---- What a cache says

no_entry : (at : ℕ) → word (replicate 16384 0) at ≡ 0
unfolding word
no_entry at = go (dec_le 16384 at)
  where
    go : Dec (16384 ≤ at) → word (replicate 16384 0) at ≡ 0
    go (yes le) = sym (word_past (replicate 16384 0) at (subst (λ n. n ≤ at) (sym (length-replicate {A = ℕ} 16384 0)) le))
    go (no nle) = get_or-replicate 16384 at 0 0 (omega arith)

-- a cache with no token in it
pub fresh : (s : List ℕ) → Cached (replicate 16384 0) s
fresh s = record { entries = length-replicate {A = ℕ} 16384 0; rule = λ at some. absurd (some (no_entry at)) }

pub fresh_unnoted : Unnoted (replicate 16384 0)
unfolding note_at note_of
fresh_unnoted = record { none = λ at. ap note_of (no_entry at) }

-- the note of an entry
pub note_there : (c : List ℕ) (at e r : ℕ) → e ≡ word c at → r ≡ (when eqb (e % 32) 25 then e / 34359738368 % 536870912 else 0) → r ≡ note_at c at
unfolding note_at note_of
note_there c at e r is er = er ∙ ap note_of is

-- a fact of an entry that is set
module _ (c s : List ℕ) (at e : ℕ) (h : Cached c s) (is : e ≡ word c at) where
  pub entry : (r : TokenRead) → 31 < e → r ≡ held e → TokenAt class s at r
  entry r l q = subst (TokenAt class s at) (sym (q ∙ sym (above e l) ∙ ap unpacked is)) (h.rule at (λ z. absurd (omega (arith, is ∙ z))))

  pub entry_end : e ≡ 31 → TokenAt class s at TokenRead.End
  unfolding unpacked
  entry_end l = subst (TokenAt class s at) (ap unpacked (sym is ∙ l)) (h.rule at (λ z. absurd (omega (arith, is ∙ z))))
