-- What a token makes of a script, case by case: each law has the form of a place in the code. Assumes nothing.
use mathlib.Core.Path.{◌≡◌, sym, ◌∙◌}
use mathlib.Core.Bool.{Bool, true, false}
use mathlib.Core.List.{List, [], ◌∷◌}
use Prim.Native.Nat.{ℕ, ◌<◌, ◌≤◌}
use borrow.Author.Tests.{ne_eqb, le-leb, lt-leb}
use Rattle.framed.specs.Common.{bytes, same}
use Rattle.source.specs.Positions.{part}
use Rattle.script.specs.Script.{is_open, called, after_name, string_for, after_string, space_for, write_space_for, integer_for, after_integer, after_token}
use Rattle.script.specs.declared.Argument.{Argument}
use Rattle.script.specs.declared.Call.{Call}
use Rattle.script.specs.declared.Script.{Script}

-- ---- By the case that it is

pub string_as : (x y : Argument) → x ≡ y → (a p : ℕ) (r : Script) → r ≡ string_for y a p → r ≡ string_for x a p
string_as x y e a p r h = rw (e) h

pub integer_as : (x y : Argument) → x ≡ y → (a p n : ℕ) (r : Script) → r ≡ integer_for y a p n → r ≡ integer_for x a p n
integer_as x y e a p n r h = rw (e) h

module _ (x y : Script) (e : x ≡ y) (a p : ℕ) (r : Script) where
  pub after_string_as : r ≡ after_string y a p → r ≡ after_string x a p
  after_string_as h = rw (e) h

  pub after_integer_as : (n : ℕ) → r ≡ after_integer y a p n → r ≡ after_integer x a p n
  after_integer_as n h = rw (e) h

module _ (fuel a p n : ℕ) where
  pub space_fits : n ≤ 4096 → Script.Complete (Call.Run fuel n) ≡ space_for fuel a p n
  space_fits l = rw (le-leb n 4096 l)

  pub space_unfit : 4096 < n → Script.Unfit a p ≡ space_for fuel a p n
  space_unfit l = rw (lt-leb n 4096 l)

pub write_space_fits : (a p n : ℕ) → n ≤ 32768 → Script.Complete (Call.Write n) ≡ write_space_for a p n
write_space_fits a p n l = rw (le-leb n 32768 l)

pub write_space_unfit : (a p n : ℕ) → 32768 < n → Script.Unfit a p ≡ write_space_for a p n
write_space_unfit a p n l = rw (lt-leb n 32768 l)

-- ---- Names

module _ (w : List ℕ) (a p : ℕ) (t0 : Bool) (e0 : t0 ≡ same w (108 ∷ 111 ∷ 97 ∷ 100 ∷ [])) where
  pub call_load : t0 ≡ true → Script.Open Argument.LoadFile ≡ called w a p
  unfolding called bytes
  call_load h = rw (sym e0 ∙ h)

  module _ (f0 : t0 ≡ false) (t1 : Bool) (e1 : t1 ≡ same w (114 ∷ 117 ∷ 110 ∷ [])) where
    pub call_run : t1 ≡ true → Script.Open Argument.RunFuel ≡ called w a p
    unfolding called bytes
    call_run h = rw (sym e0 ∙ f0, sym e1 ∙ h)

    module _ (f1 : t1 ≡ false) (t2 : Bool) (e2 : t2 ≡ same w (99 ∷ 111 ∷ 108 ∷ 108 ∷ 101 ∷ 99 ∷ 116 ∷ [])) where
      pub call_collect : t2 ≡ true → Script.Complete Call.Collect ≡ called w a p
      unfolding called bytes
      call_collect h = rw (sym e0 ∙ f0, sym e1 ∙ f1, sym e2 ∙ h)

      module _ (f2 : t2 ≡ false) (t3 : Bool) (e3 : t3 ≡ same w (108 ∷ 111 ∷ 111 ∷ 107 ∷ [])) where
        pub call_look : t3 ≡ true → Script.Open Argument.LookPath ≡ called w a p
        unfolding called bytes
        call_look h = rw (sym e0 ∙ f0, sym e1 ∙ f1, sym e2 ∙ f2, sym e3 ∙ h)

        module _ (f3 : t3 ≡ false) (t4 : Bool) (e4 : t4 ≡ same w (119 ∷ 114 ∷ 105 ∷ 116 ∷ 101 ∷ [])) where
          pub call_write : t4 ≡ true → Script.Open Argument.WriteSpace ≡ called w a p
          unfolding called bytes
          call_write h = rw (sym e0 ∙ f0, sym e1 ∙ f1, sym e2 ∙ f2, sym e3 ∙ f3, sym e4 ∙ h)

          pub call_none : t4 ≡ false → Script.Unfit a p ≡ called w a p
          unfolding called bytes
          call_none h = rw (sym e0 ∙ f0, sym e1 ∙ f1, sym e2 ∙ f2, sym e3 ∙ f3, sym e4 ∙ h)

module _ (s : List ℕ) (x : Script) (a p : ℕ) (t : Bool) (e : t ≡ is_open x) where
  pub name_inside : t ≡ true → Script.Unfit a p ≡ after_name s x a p
  unfolding after_name
  name_inside h = rw (sym e ∙ h)

  pub name_first : t ≡ false → (w : List ℕ) → w ≡ part s a p → (r : Script) → r ≡ called w a p → r ≡ after_name s x a p
  unfolding after_name
  name_first h w f r g = rw (sym e ∙ h, ← f) g

-- ---- Tokens

module _ (s : List ℕ) (x : Script) (k a p w : ℕ) (r : Script) where
  pub token_name : k ≡ 25 → r ≡ after_name s x a p → r ≡ after_token s x k a p w
  unfolding after_token
  token_name e h = rw (e) h

  pub token_integer : k ≡ 26 → r ≡ after_integer x a p w → r ≡ after_token s x k a p w
  unfolding after_token
  token_integer e h = rw (e) h

  pub token_string : k ≡ 27 → r ≡ after_string x a p → r ≡ after_token s x k a p w
  unfolding after_token
  token_string e h = rw (e) h

pub token_other :
    (s : List ℕ) (x : Script) (k a p w : ℕ) → (k ≡ 25 → ⊥) → (k ≡ 26 → ⊥) → (k ≡ 27 → ⊥) → Script.Unfit a p ≡ after_token s x k a p w
unfolding after_token
token_other s x k a p w n i t = rw (ne_eqb k 25 n, ne_eqb k 26 i, ne_eqb k 27 t)
