-- Document 01, "Whole memories" (here: well-formed), the clauses on values and frames in heap words h, as the tests that the code makes.
-- What they mean is `Form` of state_form. Assumes nothing.
use Rattle.std.specs.Prelude.{ℕ, List, Bool, not, ◌&&◌, ◌||◌, eqb, leb, ltb}
use Rattle.words.specs.Words.{all_below}
use Rattle.heap.specs.Words.{frame_word, frame_used, maker_at, slot_count_at, slot_name_at, slot_tag_at, slot_number_at, text_used}
use Rattle.frame_form.specs.declared.Limits.{Limits}

unfoldable pub frame_in_use : List ℕ → ℕ → Bool
frame_in_use h f = ltb f 256 && frame_used h f

unfoldable pub text_in_use : List ℕ → ℕ → Bool
text_in_use h k = ltb k 256 && text_used h k

unfoldable pub value_formed : List ℕ → Limits → ℕ → ℕ → Bool
value_formed h l tag n =
    eqb tag 0 || (eqb tag 1 && ltb n l.literals) || (eqb tag 2 && text_in_use h n) || (eqb tag 3 && ltb n l.codes)
    || (eqb tag 4 && frame_in_use h n)

unfoldable pub name_apart : List ℕ → ℕ → ℕ → ℕ → Bool
name_apart h f i j = not (eqb (slot_name_at h f j) (slot_name_at h f i))

unfoldable pub name_new : List ℕ → ℕ → ℕ → Bool
name_new h f i = all_below (name_apart h f i) i

unfoldable pub slot_formed : List ℕ → Limits → ℕ → ℕ → Bool
slot_formed h l f i =
    ltb (slot_name_at h f i) l.names && value_formed h l (slot_tag_at h f i) (slot_number_at h f i) && name_new h f i

unfoldable pub slots_formed : List ℕ → Limits → ℕ → ℕ → Bool
slots_formed h l f n = all_below (slot_formed h l f) n

unfoldable pub frame_formed : List ℕ → Limits → ℕ → Bool
frame_formed h l f =
    eqb (frame_word h f) 0
    || (leb (slot_count_at h f) 16 && (eqb (frame_word h f) 1 && leb (maker_at h f) l.instructions && slots_formed h l f (slot_count_at h f)))

unfoldable pub frames_formed : List ℕ → Limits → Bool
frames_formed h l = all_below (frame_formed h l) 256
