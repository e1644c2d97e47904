-- A well-formed state is a well-formed store and the rest; a well-formed store is a well-formed state with a cleared header. Assumes nothing.
use Prim.Native.Nat.{ℕ, ◌≤◌, ◌<◌}
use mathlib.Core.Path.{◌≡◌, refl, ◌∙◌, sym}
use mathlib.Core.Logic.{inl}
use mathlib.Core.List.{List}
use native.Mathlib.Omega.{arith}
use Rattle.words.specs.Words.{word}
use Rattle.heap.specs.Words.{position, end_mark, frame_used, text_used}
use Rattle.heap.specs.Held.{frames_in_use, texts_in_use}
use Rattle.heap.specs.Closed.{Sized}
use Rattle.heap.proofs.Lists.{passing_below}
use Rattle.heap.proofs.Laws.{Local, text_length_word}
use Rattle.heap.proofs.Held.{low_sized}
use Rattle.frame_form.specs.declared.Limits.{Limits}
use Rattle.state_form.specs.Form.{ValueFormed, FrameFormed, StateWellFormed}
use Rattle.state_form.proofs.Facts.{well_formed_sized}
use Rattle.state_form.proofs.Kept.{text_stays}
use Rattle.word_store.specs.Store.{clear_header}
use Rattle.word_store.specs.Form.{StoreFormed, RestFormed, StateParts}
use Rattle.word_store.proofs.Header.{low_frame_word, low_frame_used, low_count, low_maker, low_name, low_tag, low_number, low_text_word, low_text_used, clear_local, clear_word}

pub state_store : {h t : List ℕ} {l : Limits} → StateWellFormed h t l → StoreFormed h t l
state_store w = record { heap_size = w.heap_size; text_size = w.text_size; flag = w.flag; frame = w.frame; text = w.text }

pub state_rest : {h t : List ℕ} {l : Limits} → StateWellFormed h t l → RestFormed h l
state_rest w = record {
  self = w.self;
  program = w.program;
  frames_few = w.frames_few;
  texts_few = w.texts_few;
  position_there = w.position_there;
  end = w.end;
}

pub state_whole : {h t : List ℕ} {l : Limits} → StoreFormed h t l → RestFormed h l → StateWellFormed h t l
state_whole s r = record {
  heap_size = s.heap_size;
  text_size = s.text_size;
  self = r.self;
  program = r.program;
  flag = s.flag;
  frame = s.frame;
  text = s.text;
  frames_few = r.frames_few;
  texts_few = r.texts_few;
  position_there = r.position_there;
  end = r.end;
}

pub state_parts : StateParts
state_parts h t l = (λ w. (state_store w, state_rest w), λ p. state_whole p.0 p.1)

-- ---- A change of the header, and of the limits that a store does not ask for

record SameCounts (l m : Limits) : Type 0 where
  names : l.names ≡ m.names
  literals : l.literals ≡ m.literals
  codes : l.codes ≡ m.codes
  instructions : l.instructions ≡ m.instructions

module _ {a b : ℕ} {h h' : List ℕ} (c : Local a b h h') (low : b ≤ 128) {l m : Limits} (s : SameCounts l m) where
  value_moved : (tag n : ℕ) → ValueFormed h l tag n → ValueFormed h' m tag n
  value_moved tag n v = record {
    formed = v.formed;
    literal = λ e. rw (← s.literals) (v.literal e);
    made = λ e. let u = v.made e in record { small = u.small; used = low_text_used c low n ∙ u.used };
    code = λ e. rw (← s.codes) (v.code e);
    frame = λ e. let u = v.frame e in record { small = u.small; used = low_frame_used c low n ∙ u.used };
  }

  frame_moved : (f : ℕ) → FrameFormed h l f → FrameFormed h' m f
  frame_moved f o = record {
    few = rw (low_count c low f) o.few;
    maker = rw (low_maker c low f, ← s.instructions) o.maker;
    slot = λ i lt.
        let x = o.slot i (rw (low_count c low f) at lt) in
        record {
          named = rw (low_name c low f i, ← s.names) x.named;
          value = rw (low_tag c low f i, low_number c low f i) (value_moved _ _ x.value);
          new = λ j jl. rw (low_name c low f i, low_name c low f j) (x.new j jl);
        };
  }

  store_moved : (t : List ℕ) → StoreFormed h t l → StoreFormed h' t m
  store_moved t w = record {
    heap_size = c.size ∙ w.heap_size;
    text_size = w.text_size;
    flag = λ f lt. rw (low_frame_word c low f) (w.flag f lt);
    frame = λ f u. frame_moved f (w.frame f (record { small = u.small; used = sym (low_frame_used c low f) ∙ u.used }));
    text = λ k u. text_stays h h' t k (text_length_word h h' k (low_text_word c low k)) (w.text k (record { small = u.small; used = sym (low_text_used c low k) ∙ u.used }));
  }

-- as many frames and made texts as there are entries
abbrev pub wide : Limits → Limits
wide l = record { frames = 256; texts = 256; names = l.names; literals = l.literals; codes = l.codes; instructions = l.instructions }

local_back : {a b : ℕ} {h h' : List ℕ} → Local a b h h' → Local a b h' h
local_back c = record { size = sym c.size; away = λ k n. sym (c.away k n) }

module _ {h t : List ℕ} {l : Limits} where
  pub store_cleared : StoreFormed h t l → StateWellFormed (clear_header h) t (wide l)
  unfolding frames_in_use texts_in_use position end_mark
  store_cleared w = state_whole (store_moved (clear_local h) (omega arith) (record { names = refl; literals = refl; codes = refl; instructions = refl }) t w) (record {
    self = rw (cleared 0 (omega arith)) (integer (word (clear_header h) 1));
    program = rw (cleared 2 (omega arith)) (integer (word (clear_header h) 3));
    frames_few = passing_below (frame_used (clear_header h)) 256;
    texts_few = passing_below (text_used (clear_header h)) 256;
    position_there = rw (cleared 4 (omega arith)) (omega arith);
    end = inl (cleared 5 (omega arith));
  })
    where
      cleared : (k : ℕ) → k < 6 → word (clear_header h) k ≡ 0
      cleared k lt = clear_word h k w.heap_size lt

      integer : (n : ℕ) → ValueFormed (clear_header h) (wide l) 0 n
      integer n = record {
        formed = omega arith;
        literal = λ e. absurd (omega arith);
        made = λ e. absurd (omega arith);
        code = λ e. absurd (omega arith);
        frame = λ e. absurd (omega arith);
      }

  pub cleared_store : StateWellFormed (clear_header h) t (wide l) → StoreFormed h t l
  cleared_store w = store_moved (local_back (clear_local h)) (omega arith) (record { names = refl; literals = refl; codes = refl; instructions = refl }) t (state_store w)

-- a store, its header cleared or not
module _ {h t : List ℕ} {l : Limits} where
  pub clear_store : StoreFormed h t l → StoreFormed (clear_header h) t l
  clear_store w = store_moved (clear_local h) (omega arith) (record { names = refl; literals = refl; codes = refl; instructions = refl }) t w

  pub unclear_store : StoreFormed (clear_header h) t l → StoreFormed h t l
  unclear_store w = store_moved (local_back (clear_local h)) (omega arith) (record { names = refl; literals = refl; codes = refl; instructions = refl }) t w

-- what a state with the wide limits has as a store, its header cleared
pub wide_cleared : {h t : List ℕ} {l : Limits} → StateWellFormed h t (wide l) → StoreFormed (clear_header h) t l
wide_cleared {h} {t} w = store_moved (clear_local h) (omega arith) (record { names = refl; literals = refl; codes = refl; instructions = refl }) t (state_store w)

pub store_sized : {h t : List ℕ} {l : Limits} → StoreFormed h t l → Sized h
store_sized {h} w = low_sized (local_back (clear_local h)) (well_formed_sized (store_cleared w)) (omega arith)
