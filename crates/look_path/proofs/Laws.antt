-- One law for each way through the functions of this crate. Assumes nothing.
use mathlib.Core.Path.{◌≡◌, refl, sym, ap, ◌∙◌}
use mathlib.Core.List.{List, [], ◌∷◌}
use mathlib.Core.Option.{Option as Optional, none, some}
use Prim.Native.Nat.{ℕ, ◌-◌, ◌≤◌, ◌<◌}
use native.Mathlib.Omega.{arith}
use lib.ListN.{length}
use Rattle.std.specs.Prelude.{Option, Some, None}
use Rattle.framed.specs.declared.Value.{Value}
use Rattle.framed.specs.Bytes.{class}
use Rattle.framed.specs.Tokens.{Token, Fixed, tokens, prepend, next, read, skip, end}
use Rattle.framed.specs.Symbols.{Symbol, number_in, numbered}
use Rattle.framed.specs.Tree.{Written}
use Rattle.framed.specs.Parse.{names}
use Rattle.framed.specs.Program.{Program}
use Rattle.framed.specs.Values.{Frame}
use Rattle.framed.specs.Fetch.{◌>>=◌, get, fetch}
use Rattle.framed.specs.Machine.{State}
use Rattle.framed.specs.Calls.{read_path, look_from}
use Rattle.framed.proofs.TokensExact.{tokens_end}
use Rattle.source.specs.Positions.{rest, part}
use Rattle.source.proofs.Positions.{rest_end}
use Rattle.token.specs.Reading.{fixed_list, fixed_of, token_kind, token_of, TokenAt, Spot}
use Rattle.token.specs.declared.TokenRead.{TokenRead}
use Rattle.token.proofs.KindNumbers.{kind_is}
use Rattle.token.proofs.Answers.{tokens_at_end, tokens_at_none, tokens_at_token, spot_of}
use Rattle.sweep.specs.Kinds.{kind_of}
use Rattle.heap.specs.Words.{self_held, program_held}
use Rattle.heap.specs.Held.{frames_held}
use Rattle.paths.specs.Paths.{fetched}
use Rattle.look_names.specs.Names.{names_held}
use Rattle.look_path.specs.declared.Resolved.{Resolved}
use Rattle.look_path.specs.declared.Dotted.{Dotted}
use Rattle.look_path.specs.Resolve.{found, reached, resolved, Resolves, to_end, dotted_names, along, named_from, NameAt, DottedAt}
use Rattle.look_path.proofs.Dots.{dots_none, dots_more, dots_no_dot, dots_dot_alone, dots_no_name, with_root, path_none, path_other, path_self, path_up}

-- ---- end_of_path, go_on

pub path_found : (v : Option Value) (u : Value) → v ≡ Some u → Resolved.Found u ≡ found (fetched v)
unfolding found
path_found v u e = rw e

pub path_undefined : (v : Option Value) → v ≡ None → Resolved.Undefined ≡ found (fetched v)
unfolding found
path_undefined v e = rw e

module _ (table : List (List ℕ)) (frames : List Frame) (v : Option Value) (w : List ℕ) where
  pub gone_undefined : v ≡ None → fetched None ≡ named_from table frames (fetched v) w
  unfolding named_from ◌>>=◌
  gone_undefined e = rw e

  pub gone_on : (u : Value) (k : ℕ) (r : Option Value) → v ≡ Some u → k ≡ number_in table w → fetched r ≡ get frames u k → fetched r ≡ named_from table frames (fetched v) w
  unfolding named_from ◌>>=◌
  gone_on u k r e ek er = rw (er, ek, e)

-- ---- The first symbol of numbered tokens has the kind of the first token

record First (table : List (List ℕ)) (t : Token) (ts : List Token) : Type 0 where
  pub symbol : Symbol
  pub others : List Symbol
  pub is : numbered table 0 0 (t ∷ ts) ≡ symbol ∷ others
  pub kind : kind_of symbol ≡ token_kind t

first : (table : List (List ℕ)) (t : Token) (ts : List Token) → First table t ts
unfolding numbered kind_of token_kind
first table (Token.name w) ts = record { symbol = Symbol.name (number_in table w); others = numbered table 0 0 ts; is = refl; kind = refl }
first table (Token.integer z) ts = record { symbol = Symbol.integer z; others = numbered table 0 0 ts; is = refl; kind = refl }
first table (Token.string w) ts = record { symbol = Symbol.string 0; others = numbered table 1 0 ts; is = refl; kind = refl }
first table Token.code ts = record { symbol = Symbol.code 0; others = numbered table 0 1 ts; is = refl; kind = refl }
first table (Token.fixed f) ts = record { symbol = Symbol.fixed f; others = numbered table 0 0 ts; is = refl; kind = refl }

-- ---- Dots and names among tokens

module _ (table : List (List ℕ)) where
  no_dot : (t : Token) (o : Optional (List Token)) → (token_kind t ≡ 7 → ⊥) → dotted_names table (prepend t o) ≡ none
  unfolding dotted_names prepend
  no_dot t none f = refl
  no_dot t (some ts) f = let x = first table t ts in rw x.is (dots_no_dot x.symbol x.others (λ e. f (sym x.kind ∙ e)))

  no_name : (t : Token) (o : Optional (List Token)) → (token_kind t ≡ 25 → ⊥) → dotted_names table (prepend (Token.fixed Fixed.dot) (prepend t o)) ≡ none
  unfolding dotted_names prepend numbered
  no_name t none f = refl
  no_name t (some ts) f = let x = first table t ts in rw (numbered, x.is) (dots_no_name x.symbol x.others (λ e. f (sym x.kind ∙ e)))

  dot_alone : dotted_names table (prepend (Token.fixed Fixed.dot) (some [])) ≡ none
  unfolding dotted_names prepend numbered
  dot_alone = dots_dot_alone

  -- the values that they lead to
  step_on : (frames : List Frame) (v : Optional Value) (w : List ℕ) (o : Optional (List Token)) →
      along frames v (dotted_names table (prepend (Token.fixed Fixed.dot) (prepend (Token.name w) o))) ≡ along frames (named_from table frames v w) (dotted_names table o)
  unfolding dotted_names prepend numbered along named_from fetch ◌>>=◌
  step_on frames v w none = refl
  step_on frames v w (some ts) = rw (dots_more (number_in table w) (numbered table 0 0 ts)) (go v (to_end (names (numbered table 0 0 ts))))
    where
      go : (v : Optional Value) (o : Optional (List ℕ)) → along frames v (prepend (number_in table w) o) ≡ along frames (named_from table frames v w) o
      go v none = refl
      go none (some ns) = refl
      go (some u) (some ns) = refl

  stop_here : (frames : List Frame) (v : Optional Value) → along frames v (dotted_names table (some [])) ≡ found v
  unfolding dotted_names numbered along fetch ◌>>=◌
  stop_here frames v = rw dots_none (go v)
    where
      go : (v : Optional Value) → found (◌>>=◌ v (λ u. fetch frames u [])) ≡ found v
      go none = refl
      go (some u) = refl

-- ---- name_at, dotted_name

module _ (s : List ℕ) (at : ℕ) (t : TokenRead) (f : TokenAt class s at t) where
  pub name_none : ((k : ℕ) (n : ℕ) (i : ℕ) (j : ℕ) → t ≡ TokenRead.Token k n i j → ⊥) → NameAt s at Dotted.Other
  unfolding prepend dotted_names
  name_none o = go t f o
    where
      go : (t : TokenRead) → TokenAt class s at t → ((k : ℕ) (n : ℕ) (i : ℕ) (j : ℕ) → t ≡ TokenRead.Token k n i j → ⊥) → NameAt s at Dotted.Other
      go TokenRead.End f o = NameAt.other (λ table. rw (tokens_at_end class s at TokenRead.End f refl) (dot_alone table))
      go TokenRead.NoToken f o = NameAt.other (λ table. rw (tokens_at_none class s at TokenRead.NoToken f refl))
      go (TokenRead.Token k a e w) f o = absurd (o k a e w refl)

  pub dotted_end : t ≡ TokenRead.End → DottedAt s at Dotted.End
  dotted_end e = DottedAt.at_end (tokens_at_end class s at t f e)

  pub dotted_none : t ≡ TokenRead.NoToken → DottedAt s at Dotted.Other
  unfolding dotted_names
  dotted_none e = DottedAt.other (λ table. rw (tokens_at_none class s at t f e))

  module _ (k a e w : ℕ) (q : t ≡ TokenRead.Token k a e w) where
    here : Spot at (length s) k a e
    here = spot_of t f.on q

    kind_here : token_kind (token_of s k a e w) ≡ k
    kind_here = kind_is s a e w k here.known

    pub name_other : (k ≡ 25 → ⊥) → NameAt s at Dotted.Other
    name_other n = NameAt.other (λ table. rw (tokens_at_token class s at t f k a e w q) (no_name table (token_of s k a e w) (tokens class (rest s e)) (λ h. n (sym kind_here ∙ h))))

    pub name_here : k ≡ 25 → NameAt s at (Dotted.Name a e)
    unfolding token_of
    name_here n = NameAt.name {e = e} (omega (arith, here.begins, here.more)) here.inside (rw n at (tokens_at_token class s at t f k a e w q))

    pub dotted_other : (k ≡ 7 → ⊥) → DottedAt s at Dotted.Other
    dotted_other n = DottedAt.other (λ table. rw (tokens_at_token class s at t f k a e w q) (no_dot table (token_of s k a e w) (tokens class (rest s e)) (λ h. n (sym kind_here ∙ h))))

    pub dotted_here : (r : Dotted) → k ≡ 7 → NameAt s e r → DottedAt s at r
    unfolding token_of fixed_of fixed_list
    dotted_here r n x = go r x (rw n at (tokens_at_token class s at t f k a e w q))
      where
        go : (r : Dotted) → NameAt s e r → tokens class (rest s at) ≡ prepend (Token.fixed Fixed.dot) (tokens class (rest s e)) → DottedAt s at r
        go _ (NameAt.name {e = d} l m g) h = DottedAt.name {e = d} (omega (arith, here.begins, here.more)) m (h ∙ ap (prepend (Token.fixed Fixed.dot)) g)
        go _ (NameAt.other g) h = DottedAt.other (λ table. rw h (g table))

-- ---- follow: what is left leads from here where all of it leads

pub record Following (p h s : List ℕ) (from : ℕ) (v₀ v : Option Value) (at : ℕ) : Type 0 where
  pub same : along (frames_held h) (fetched v) (dotted_names (names_held p) (tokens class (rest s at))) ≡ along (frames_held h) (fetched v₀) (dotted_names (names_held p) (tokens class (rest s from)))

pub follow_start : (p h s : List ℕ) (from : ℕ) (v : Option Value) → Following p h s from v v from
follow_start p h s from v = record { same = refl }

record NameHere (s : List ℕ) (at a e : ℕ) : Type 0 where
  pub more : at < e
  pub inside : e ≤ length s
  pub is : tokens class (rest s at) ≡ prepend (Token.fixed Fixed.dot) (prepend (Token.name (part s a e)) (tokens class (rest s e)))

name_inside : (s : List ℕ) (at : ℕ) (x : Dotted) → DottedAt s at x → (a e : ℕ) → x ≡ Dotted.Name a e → NameHere s at a e
name_inside s at _ (DottedAt.at_end g) a e q = let z : ◌≡◌ {A = ℕ} 0 1 = cc in absurd (omega arith)
name_inside s at _ (DottedAt.other g) a e q = let z : ◌≡◌ {A = ℕ} 0 1 = cc in absurd (omega arith)
name_inside s at _ (DottedAt.name {a = b} {e = d} l m g) a e q =
    let ea : b ≡ a = cc in
    let ee : d ≡ e = cc in
    rw (← ea, ← ee) (record { more = l; inside = m; is = g })

end_inside : (s : List ℕ) (at : ℕ) (x : Dotted) → DottedAt s at x → x ≡ Dotted.End → tokens class (rest s at) ≡ some []
end_inside s at _ (DottedAt.at_end g) q = g
end_inside s at _ (DottedAt.other g) q = let z : ◌≡◌ {A = ℕ} 0 1 = cc in absurd (omega arith)
end_inside s at _ (DottedAt.name l m g) q = let z : ◌≡◌ {A = ℕ} 0 1 = cc in absurd (omega arith)

other_inside : (s : List ℕ) (at : ℕ) (x : Dotted) → DottedAt s at x → x ≡ Dotted.Other → (table : List (List ℕ)) → dotted_names table (tokens class (rest s at)) ≡ none
other_inside s at _ (DottedAt.at_end g) q = let z : ◌≡◌ {A = ℕ} 0 1 = cc in absurd (omega arith)
other_inside s at _ (DottedAt.other g) q = g
other_inside s at _ (DottedAt.name l m g) q = let z : ◌≡◌ {A = ℕ} 0 1 = cc in absurd (omega arith)

pub follow_less : (s : List ℕ) (at : ℕ) (x : Dotted) → DottedAt s at x → (a e : ℕ) → x ≡ Dotted.Name a e → at < length s → length s - e < length s - at
follow_less s at x f a e q l = let n = name_inside s at x f a e q in omega (arith, n.more)

module _ (p h s : List ℕ) (from : ℕ) (v : Option Value) (at : ℕ) (x : Dotted) (f : DottedAt s at x) where
  pub follow_again : (v₀ : Option Value) → Following p h s from v₀ v at → (a e : ℕ) (w : List ℕ) (u : Option Value) →
      x ≡ Dotted.Name a e → w ≡ part s a e → fetched u ≡ named_from (names_held p) (frames_held h) (fetched v) w → Following p h s from v₀ u e
  follow_again v₀ i a e w u q ew eu =
      let n = name_inside s at x f a e q in
      record { same = rw (eu, ew) (sym (step_on (names_held p) (frames_held h) (fetched v) (part s a e) (tokens class (rest s e))) ∙ (rw n.is at i.same)) }

module _ (p h s : List ℕ) (from : ℕ) (root : Value) (v : Option Value) (at : ℕ) (i : Following p h s from (Some root) v at) where
  stop : (r : Resolved) → r ≡ found (fetched v) → tokens class (rest s at) ≡ some [] → r ≡ along (frames_held h) (some root) (dotted_names (names_held p) (tokens class (rest s from)))
  stop r er e = er ∙ sym (stop_here (names_held p) (frames_held h) (fetched v)) ∙ (rw e at i.same)

  pub follow_done : (r : Resolved) → length s ≤ at → r ≡ found (fetched v) → r ≡ along (frames_held h) (some root) (dotted_names (names_held p) (tokens class (rest s from)))
  unfolding next read skip
  follow_done r l er = stop r er (tokens_end class (rest s at) (ends (rest s at) (rest_end s at l)))
    where
      ends : (bs : List ℕ) → bs ≡ [] → next class bs ≡ end
      ends bs e = rw e

  module _ (x : Dotted) (f : DottedAt s at x) where
    pub follow_end : (r : Resolved) → x ≡ Dotted.End → r ≡ found (fetched v) → r ≡ along (frames_held h) (some root) (dotted_names (names_held p) (tokens class (rest s from)))
    follow_end r e er = stop r er (end_inside s at x f e)

    pub follow_other : x ≡ Dotted.Other → Resolved.NotPath ≡ along (frames_held h) (some root) (dotted_names (names_held p) (tokens class (rest s from)))
    unfolding along
    follow_other e = rw (other_inside s at x f e (names_held p)) at i.same

-- ---- resolve

-- the path behind its first token
reach_root : (s : State) (o : Optional (List ℕ)) → reached s (with_root Written.self o) ≡ along s.heap.frames (some s.self) o
unfolding with_root reached along look_from ◌>>=◌
reach_root s none = refl
reach_root s (some ns) = refl

reach_program : (s : State) (o : Optional (List ℕ)) → reached s (with_root (Written.up 0) o) ≡ along s.heap.frames (some s.program) o
unfolding with_root reached along look_from ◌>>=◌
reach_program s none = refl
reach_program s (some ns) = refl

module _ (q : Program) (s : State) where
  from_self : (o : Optional (List Token)) → reached s (read_path q (prepend (Token.fixed Fixed.self) o)) ≡ along s.heap.frames (some s.self) (dotted_names q.names o)
  unfolding read_path prepend numbered dotted_names reached along
  from_self none = refl
  from_self (some ts) = rw (numbered, path_self (numbered q.names 0 0 ts)) (reach_root s (to_end (names (numbered q.names 0 0 ts))))

  from_program : (o : Optional (List Token)) → reached s (read_path q (prepend (Token.fixed Fixed.up) o)) ≡ along s.heap.frames (some s.program) (dotted_names q.names o)
  unfolding read_path prepend numbered dotted_names reached along
  from_program none = refl
  from_program (some ts) = rw (numbered, path_up (numbered q.names 0 0 ts)) (reach_program s (to_end (names (numbered q.names 0 0 ts))))

  from_other : (t : Token) (o : Optional (List Token)) → (token_kind t ≡ 1 → ⊥) → (token_kind t ≡ 8 → ⊥) → Resolved.NotPath ≡ reached s (read_path q (prepend t o))
  unfolding read_path prepend reached
  from_other t none f g = refl
  from_other t (some ts) f g = let x = first q.names t ts in rw (x.is, path_other x.symbol x.others (λ e. f (sym x.kind ∙ e)) (λ e. g (sym x.kind ∙ e)))

  from_nothing : Resolved.NotPath ≡ reached s (read_path q (some []))
  unfolding read_path numbered reached
  from_nothing = rw (numbered, path_none)

module _ (p h s : List ℕ) (t : TokenRead) (f : TokenAt class s 0 t) where
  pub resolve_none : ((k : ℕ) (n : ℕ) (i : ℕ) (j : ℕ) → t ≡ TokenRead.Token k n i j → ⊥) → Resolves p h s Resolved.NotPath
  unfolding rest resolved reached read_path
  resolve_none o = record { is = λ q st a b c d. go t f o q st }
    where
      go : (t : TokenRead) → TokenAt class s 0 t → ((k : ℕ) (n : ℕ) (i : ℕ) (j : ℕ) → t ≡ TokenRead.Token k n i j → ⊥) → (q : Program) (st : State) → Resolved.NotPath ≡ resolved q st s
      go TokenRead.End f o q st = from_nothing q st ∙ ap (λ (x : Optional (List Token)). reached st (read_path q x)) (sym (tokens_at_end class s 0 TokenRead.End f refl))
      go TokenRead.NoToken f o q st = ap (λ (x : Optional (List Token)). reached st (read_path q x)) (sym (tokens_at_none class s 0 TokenRead.NoToken f refl))
      go (TokenRead.Token k a e w) f o q st = absurd (o k a e w refl)

  module _ (k a e w : ℕ) (g : t ≡ TokenRead.Token k a e w) where
    spot : Spot 0 (length s) k a e
    spot = spot_of t f.on g

    first_kind : token_kind (token_of s k a e w) ≡ k
    first_kind = kind_is s a e w k spot.known

    all_tokens : tokens class s ≡ prepend (token_of s k a e w) (tokens class (rest s e))
    unfolding rest
    all_tokens = tokens_at_token class s 0 t f k a e w g

    pub resolve_other : (k ≡ 1 → ⊥) → (k ≡ 8 → ⊥) → Resolves p h s Resolved.NotPath
    unfolding resolved
    resolve_other m n = record { is = λ q st x y z u. rw all_tokens (from_other q st (token_of s k a e w) (tokens class (rest s e)) (λ i. m (sym first_kind ∙ i)) (λ i. n (sym first_kind ∙ i))) }

    module _ (v : Value) (r : Resolved) (er : r ≡ along (frames_held h) (some v) (dotted_names (names_held p) (tokens class (rest s e)))) where
      pub resolve_self : k ≡ 1 → v ≡ self_held h → Resolves p h s r
      unfolding resolved token_of fixed_of fixed_list
      resolve_self n ev = record { is = λ q st x y z u. rw (er, ev, ← x, ← y, ← z, rw n at all_tokens) (sym (from_self q st (tokens class (rest s e)))) }

      pub resolve_program : k ≡ 8 → v ≡ program_held h → Resolves p h s r
      unfolding resolved token_of fixed_of fixed_list
      resolve_program n ev = record { is = λ q st x y z u. rw (er, ev, ← x, ← y, ← u, rw n at all_tokens) (sym (from_program q st (tokens class (rest s e)))) }
