-- What is read is spelled as a dump.
use Rattle.std.proofs.Common.{◌≡◌, ℕ, zero, suc, ◌+◌, ◌^◌, ◌≤◌, ◌<◌, List, [], ◌∷◌, ◌++◌, ◌⊎◌, Bool, true, false, cond}
use Rattle.std.proofs.Common.{eqb, ltb, length, Option, Some, None, Result, Ok, Err, refl, sym, ap, ◌∙◌, subst, inl}
use Rattle.std.proofs.Common.{inr, arith, append_assoc}
use Rattle.std.specs.List.{flat_map, list_all, AllByRecursion}
use Rattle.std.proofs.lemmas.Bool.{le-ltb, lt-ltb, cases_lt}
use Rattle.std.proofs.lemmas.Bool.Decides.{eqb_tells}
use Rattle.std.proofs.lemmas.List.{append-nil}
use Rattle.vcd_reader.specs.declared.fault.Fault.{Fault}
use Rattle.vcd_reader.specs.declared.fault.Fault.TheVariants.{BadToken}
use Rattle.vcd_reader.specs.declared.header.Word.{Word}
use Rattle.vcd_reader.specs.declared.header.Word.TheVariants as words
use Rattle.vcd_reader.specs.Tokens.{DumpToken, tokens}
use Rattle.vcd_reader.specs.Numbers.{decimal_below}
use Rattle.vcd_reader.specs.Values.{ValueChange, Moment}
use Rattle.vcd_reader.specs.Variables.{Declared, is_code_byte, codes_of, place_of}
use Rattle.vcd_reader.specs.Faults.{◌>>=◌}
use Rattle.vcd_reader.specs.Header.{Header, Head, is_end, outer_scopes, variable, word_of, field, close, header_end}
use Rattle.vcd_reader.specs.Header.{header, closing_token, skipped_section, scope_type, scope_name, var_type, var_size}
use Rattle.vcd_reader.specs.Header.{var_code, var_reference, var_more, with_size}
use Rattle.vcd_reader.specs.Body.{Kind, Time, Scalar, Vector, Text, Lone, Section, Bad, Rest, Next, kind_of}
use Rattle.vcd_reader.specs.Body.{behind_first, most_changes, with_change, with_step, with_time, change_by_code, scalar}
use Rattle.vcd_reader.specs.Body.{by_kind, body, section, vector, behind_ignored, steps_of}
use Rattle.vcd_reader.specs.Dump.{Contents, dump_of, contents_behind}
use Rattle.vcd_reader.specs.Grammar.{AreInner, IsEnd, Part, Opens, Closes, Declares, Skipped, part_tokens, IsPart}
use Rattle.vcd_reader.specs.Grammar.{joined_text, declared_by, Entry, Instant, Bit, Digits, Ignored, Alone, Comment}
use Rattle.vcd_reader.specs.Grammar.{entry_tokens, IsEntry, Rises, changes_in, said_rest, IsDump}
use Rattle.vcd_reader.proofs.HeaderLaws.{scope_type-field, scope_name-field, closed-close, var_type-field}
use Rattle.vcd_reader.proofs.HeaderLaws.{var_size-field, var_code-field, var_reference-field, skipped-none, skipped-end}
use Rattle.vcd_reader.proofs.HeaderLaws.{skipped-more, more-none, more-end, more-more, header-none}
use Rattle.vcd_reader.proofs.BodyLaws.{section-none, section-end, section-more}
use Rattle.vcd_reader.proofs.GrammarLaws.{header-word, body-kind, body-nil, vector-cons, ignored-cons}

tells : (b : Bool) → (b ≡ true) ⊎ (b ≡ false)
tells true = inl refl
tells false = inr refl

-- one token of a section, and its end
record Field (ts : List DumpToken) (go : DumpToken → List DumpToken → Result Header Fault) (r : Header) : Type 0 where
  first : DumpToken
  later : List DumpToken
  parts : ts ≡ first ∷ later
  inner : is_end first.text ≡ false
  read : go first later ≡ Ok r

field-if : (t : DumpToken) (ts : List DumpToken) (go : DumpToken → List DumpToken → Result Header Fault) (r : Header)
    (b : Bool) → b ≡ is_end t.text → cond b (Err (BadToken t.at)) (go t ts) ≡ Ok r → Field (t ∷ ts) go r
field-if t ts go r true is e = absurd cc
field-if t ts go r false is e = record { first = t; later = ts; parts = refl; inner = sym is; read = e }

field-ok : (word : DumpToken) (ts : List DumpToken) (go : DumpToken → List DumpToken → Result Header Fault) (r : Header)
    → field word ts go ≡ Ok r → Field ts go r
field-ok word [] go r e = absurd cc
field-ok word (t ∷ ts) go r e = field-if t ts go r (is_end t.text) refl e

record Close (ts : List DumpToken) (go : List DumpToken → Result Header Fault) (r : Header) : Type 0 where
  stop : DumpToken
  later : List DumpToken
  parts : ts ≡ stop ∷ later
  ends : IsEnd stop
  read : go later ≡ Ok r

close-if : (t : DumpToken) (ts : List DumpToken) (go : List DumpToken → Result Header Fault) (r : Header) (b : Bool)
    → b ≡ is_end t.text → cond b (go ts) (Err (BadToken t.at)) ≡ Ok r → Close (t ∷ ts) go r
close-if t ts go r true is e = record { stop = t; later = ts; parts = refl; ends = sym is; read = e }
close-if t ts go r false is e = absurd cc

close-ok : (word : DumpToken) (ts : List DumpToken) (go : List DumpToken → Result Header Fault) (r : Header)
    → close word ts go ≡ Ok r → Close ts go r
close-ok word [] go r e = absurd cc
close-ok word (t ∷ ts) go r e = close-if t ts go r (is_end t.text) refl e

-- the rest of a section
record Inner (ts : List DumpToken) : Type 0 where
  inner : List DumpToken
  stop : DumpToken
  later : List DumpToken
  parts : inner ++ stop ∷ later ≡ ts
  are_inner : AreInner inner
  ends : IsEnd stop
  shorter : length later < length ts

module _ (scopes : List (List ℕ)) (vars : List Declared) (word : DumpToken) (r : Header) where
  skipped-ok : (ts : List DumpToken) → skipped_section scopes vars word ts ≡ Ok r → (i : Inner ts)
      × (header scopes vars i.later ≡ Ok r)
  skipped-ok [] e = let n = skipped-none scopes vars word [] refl in absurd (cc (n, e))
  skipped-ok (t ∷ ts) e = elim (tells (is_end t.text)) [
    | inl h ↦ (
      record { inner = []; stop = t; later = ts; parts = refl; are_inner = tt; ends = h; shorter = omega arith },
      sym (skipped-end scopes vars word (t ∷ ts) t.text t.at ts refl h) ∙ e,
    )
    | inr h ↦
        let s = skipped-ok ts (sym (skipped-more scopes vars word (t ∷ ts) t.text t.at ts refl h) ∙ e) in (
          record {
            inner = t ∷ s.0.inner;
            stop = s.0.stop;
            later = s.0.later;
            parts = ap (λ (xs : List DumpToken). t ∷ xs) s.0.parts;
            are_inner = (h, s.0.are_inner);
            ends =
                s.0.ends;
            shorter = omega (arith, s.0.shorter);
          },
          s.1,
        )
  ]

  more-ok : (h : Head) (text : List ℕ) (ts : List DumpToken) → var_more scopes vars word h text ts ≡ Ok r
      → (i : Inner ts) × (header scopes (vars ++ variable scopes h (text ++ joined_text i.inner) ∷ []) i.later ≡ Ok r)
  more-ok h text [] e = let n = more-none scopes vars word h text [] refl in absurd (cc (n, e))
  more-ok h text (t ∷ ts) e = elim (tells (is_end t.text)) [
    | inl b ↦ (
      record { inner = []; stop = t; later = ts; parts = refl; are_inner = tt; ends = b; shorter = omega arith },
      ap (λ (x : List ℕ). header scopes (vars ++ variable scopes h x ∷ []) ts) (append-nil text)
          ∙ sym (more-end scopes vars word h text (t ∷ ts) t.text t.at ts refl b) ∙ e,
    )
    | inr b ↦
        let s =
        more-ok h (text ++ t.text) ts (sym (more-more scopes vars word h text (t ∷ ts) t.text t.at ts refl b) ∙ e)
        in (
          record {
            inner = t ∷ s.0.inner;
            stop = s.0.stop;
            later = s.0.later;
            parts = ap (λ (xs : List DumpToken). t ∷ xs) s.0.parts;
            are_inner = (b, s.0.are_inner);
            ends =
                s.0.ends;
            shorter = omega (arith, s.0.shorter);
          },
          ap (λ (x : List ℕ). header scopes (vars ++ variable scopes h x ∷ []) s.0.later)
              (sym (append_assoc text t.text (joined_text s.0.inner))) ∙ s.1,
        )
  ]

sized-ok : (o : Option ℕ) (t : DumpToken) (go : ℕ → Result Header Fault) (r : Header) → with_size o t go ≡ Ok r
    → (n : ℕ) × (o ≡ Some n) × (go n ≡ Ok r)
sized-ok None t go r e = absurd cc
sized-ok (Some n) t go r e = (n, refl, e)

coded-ok : (b : Bool) (t : DumpToken) (read : Result Header Fault) (r : Header) → cond b read (Err (BadToken t.at))
    ≡ Ok r → (b ≡ true) × (read ≡ Ok r)
coded-ok true t read r e = (refl, e)
coded-ok false t read r e = absurd cc

-- the tokens of a $var, one after the other
module _ (scopes : List (List ℕ)) (vars : List Declared) (word : DumpToken) (r : Header) where
  record Sized (type : List ℕ) (ts : List DumpToken) : Type 0 where
    token : DumpToken
    number : ℕ
    later : List DumpToken
    parts : ts ≡ token ∷ later
    inner : is_end token.text ≡ false
    size : decimal_below (2 ^ 32) token.text ≡ Some number
    read : var_code scopes vars word type number later ≡ Ok r

  sized-from : (type : List ℕ) (ts : List DumpToken)
      (b : Field ts
      (λ u us. with_size (decimal_below (2 ^ 32) u.text) u (λ size. var_code scopes vars word type size us)) r)
      → (s : (n : ℕ) × (decimal_below (2 ^ 32) b.first.text ≡ Some n)
      × (var_code scopes vars word type n b.later ≡ Ok r)) → Sized type ts
  sized-from type ts b s =
      record {
        token = b.first;
        number = s.0;
        later = b.later;
        parts = b.parts;
        inner = b.inner;
        size = s.1;
        read = s.2;
      }

  size-ok : (type : List ℕ) (ts : List DumpToken) → var_size scopes vars word type ts ≡ Ok r → Sized type ts
  size-ok type ts e =
      let b =
      field-ok word ts
      (λ u us. with_size (decimal_below (2 ^ 32) u.text) u (λ size. var_code scopes vars word type size us)) r
      (sym (var_size-field scopes vars word type ts) ∙ e) in
      sized-from type ts b
      (sized-ok (decimal_below (2 ^ 32) b.first.text) b.first
      (λ size. var_code scopes vars word type size b.later) r b.read)

  record Coded (type : List ℕ) (number : ℕ) (ts : List DumpToken) : Type 0 where
    token : DumpToken
    later : List DumpToken
    parts : ts ≡ token ∷ later
    inner : is_end token.text ≡ false
    code : list_all is_code_byte token.text ≡ true
    read : var_reference scopes vars word (record { type = type; size = number; code = token.text }) later ≡ Ok r

  code-ok : (type : List ℕ) (number : ℕ) (ts : List DumpToken) → var_code scopes vars word type number ts ≡ Ok r
      → Coded type number ts
  code-ok type number ts e =
      let c =
      field-ok word ts
      (λ u us. cond (list_all is_code_byte u.text)
      (var_reference scopes vars word (record { type = type; size = number; code = u.text }) us)
      (Err (BadToken u.at))) r (sym (var_code-field scopes vars word type number ts) ∙ e) in
      let k =
      coded-ok (list_all is_code_byte c.first.text) c.first
      (var_reference scopes vars word (record { type = type; size = number; code = c.first.text }) c.later) r
      c.read in
      record { token = c.first; later = c.later; parts = c.parts; inner = c.inner; code = k.0; read = k.1 }

  reference-ok : (h : Head) (ts : List DumpToken) → var_reference scopes vars word h ts ≡ Ok r
      → Field ts (λ u us. var_more scopes vars word h u.text us) r
  reference-ok h ts e =
      field-ok word ts (λ u us. var_more scopes vars word h u.text us) r
      (sym (var_reference-field scopes vars word h ts) ∙ e)

  type-ok : (ts : List DumpToken) → var_type scopes vars word ts ≡ Ok r
      → Field ts (λ u us. var_size scopes vars word u.text us) r
  type-ok ts e =
      field-ok word ts (λ u us. var_size scopes vars word u.text us) r (sym (var_type-field scopes vars word ts) ∙ e)

  -- a whole $var
  record Variable (ts : List DumpToken) : Type 0 where
    type : DumpToken
    size : DumpToken
    number : ℕ
    code : DumpToken
    first : DumpToken
    rest : List DumpToken
    parts : ts ≡ type ∷ size ∷ code ∷ first ∷ rest
    are_inner : AreInner (type ∷ size ∷ code ∷ first ∷ [])
    is_size : decimal_below (2 ^ 32) size.text ≡ Some number
    is_code : list_all is_code_byte code.text ≡ true
    read : var_more scopes vars word (record { type = type.text; size = number; code = code.text }) first.text rest
        ≡ Ok r

  variable-ok : (ts : List DumpToken) → var_type scopes vars word ts ≡ Ok r → Variable ts
  variable-ok ts e =
      let a = type-ok ts e in
      let b = size-ok a.first.text a.later a.read in
      let c = code-ok a.first.text b.number b.later b.read in
      let d = reference-ok (record { type = a.first.text; size = b.number; code = c.token.text }) c.later c.read in
      record {
        type = a.first;
        size = b.token;
        number = b.number;
        code = c.token;
        first = d.first;
        rest = d.later;
        parts =
            a.parts
            ∙ ap (λ (xs : List DumpToken). a.first ∷ xs)
            (b.parts
            ∙ ap (λ (xs : List DumpToken). b.token ∷ xs)
            (c.parts ∙ ap (λ (xs : List DumpToken). c.token ∷ xs) d.parts));
        are_inner = (a.inner, (b.inner, (c.inner, (d.inner, tt))));
        is_size = b.size;
        is_code = c.code;
        read = d.read;
      }

-- the header
record Parts (scopes : List (List ℕ)) (vars : List Declared) (ts : List DumpToken) (r : Header) : Type 0 where
  parts : List Part
  ends : DumpToken
  stop : DumpToken
  spelled : flat_map part_tokens parts ++ ends ∷ stop ∷ r.1 ≡ ts
  are_parts : AllByRecursion IsPart parts
  is_ends : words.Ends ≡ word_of ends.text
  is_stop : IsEnd stop
  means : vars ++ declared_by scopes parts ≡ r.0

-- a part in front of the rest
put-part : (scopes after : List (List ℕ)) (vars more : List Declared) (p : Part) (ts rest : List DumpToken) (r : Header)
    → IsPart p → part_tokens p ++ rest ≡ ts
    → ((ps : List Part) → vars ++ declared_by scopes (p ∷ ps) ≡ more ++ declared_by after ps)
    → Parts after more rest r → Parts scopes vars ts r
put-part scopes after vars more p ts rest r is spells says s = record {
  parts = p ∷ s.parts;
  ends = s.ends;
  stop = s.stop;
  spelled =
      append_assoc (part_tokens p) (flat_map part_tokens s.parts) (s.ends ∷ s.stop ∷ r.1)
      ∙ ap (λ (xs : List DumpToken). part_tokens p ++ xs) s.spelled ∙ spells;
  are_parts = (is, s.are_parts);
  is_ends = s.is_ends;
  is_stop = s.is_stop;
  means = says s.parts ∙ s.means;
}

module _ (n : ℕ) (next : (scopes : List (List ℕ)) (vars : List Declared) (ts : List DumpToken) (r : Header)
    → length ts ≤ n → header scopes vars ts ≡ Ok r → Parts scopes vars ts r) (scopes : List (List ℕ))
    (vars : List Declared) (t : DumpToken) (ts : List DumpToken) (r : Header) (short : length ts ≤ n) where
  at-ends : words.Ends ≡ word_of t.text → header_end vars t ts ≡ Ok r → Parts scopes vars (t ∷ ts) r
  at-ends w e =
      let c = close-ok t ts (λ (rest : List DumpToken). let x : Result Header Fault = Ok (vars, rest) in x) r e in
      let same : (vars, c.later) ≡ r = let h = c.read in cc in
      record {
        parts = [];
        ends = t;
        stop = c.stop;
        spelled = ap (λ (h : Header). t ∷ c.stop ∷ h.1) (sym same)
            ∙ ap (λ (xs : List DumpToken). t ∷ xs) (sym c.parts);
        are_parts = tt;
        is_ends = w;
        is_stop = c.ends;
        means =
            append-nil vars ∙ ap (λ (h : Header). h.0) same;
      }

  at-scope : words.Scope ≡ word_of t.text → scope_type scopes vars t ts ≡ Ok r → Parts scopes vars (t ∷ ts) r
  at-scope w e =
      let a = field-ok t ts (λ u us. scope_name scopes vars t us) r (sym (scope_type-field scopes vars t ts) ∙ e) in
      let b =
      field-ok t a.later (λ u us. closing_token (scopes ++ u.text ∷ []) vars t us) r
      (sym (scope_name-field scopes vars t a.later) ∙ a.read) in
      let c =
      close-ok t b.later (λ us. header (scopes ++ b.first.text ∷ []) vars us) r
      (sym (closed-close (scopes ++ b.first.text ∷ []) vars t b.later) ∙ b.read) in
      let whole : a.first ∷ b.first ∷ c.stop ∷ c.later ≡ ts =
      sym (a.parts
      ∙ ap (λ (xs : List DumpToken). a.first ∷ xs) (b.parts ∙ ap (λ (xs : List DumpToken). b.first ∷ xs) c.parts))
      in
      let less : length c.later ≤ n = omega (arith, ap (λ (xs : List DumpToken). length xs) whole) in
      put-part scopes (scopes ++ b.first.text ∷ []) vars vars (Opens t a.first b.first c.stop) (t ∷ ts) c.later r
      (w, (a.inner, (b.inner, tt)), c.ends) (ap (λ (xs : List DumpToken). t ∷ xs) whole) (λ ps. refl)
      (next (scopes ++ b.first.text ∷ []) vars c.later r less c.read)

  at-upscope : words.Upscope ≡ word_of t.text → closing_token (outer_scopes scopes) vars t ts ≡ Ok r
      → Parts scopes vars (t ∷ ts) r
  at-upscope w e =
      let c =
      close-ok t ts (λ us. header (outer_scopes scopes) vars us) r
      (sym (closed-close (outer_scopes scopes) vars t ts) ∙ e) in
      let less : length c.later ≤ n = omega (arith, ap (λ (xs : List DumpToken). length xs) c.parts) in
      put-part scopes (outer_scopes scopes) vars vars (Closes t c.stop) (t ∷ ts) c.later r (w, c.ends)
      (ap (λ (xs : List DumpToken). t ∷ xs) (sym c.parts)) (λ ps. refl)
      (next (outer_scopes scopes) vars c.later r less c.read)

  var-part : (v : Variable scopes vars t r ts) (i : Inner v.rest) → words.Var ≡ word_of t.text
      → header scopes (vars ++ variable scopes (record { type = v.type.text; size = v.number; code = v.code.text })
      (v.first.text ++ joined_text i.inner) ∷ []) i.later ≡ Ok r → Parts scopes vars (t ∷ ts) r
  var-part v i w e =
      let d =
      variable scopes (record { type = v.type.text; size = v.number; code = v.code.text })
      (v.first.text ++ joined_text i.inner) in
      let long : length ts ≡ suc (suc (suc (suc (length v.rest)))) = ap (λ (xs : List DumpToken). length xs) v.parts in
      let less : length i.later ≤ n = omega (arith, i.shorter) in
      put-part scopes scopes vars (vars ++ d ∷ []) (Declares t v.type v.size v.number v.code v.first i.inner i.stop)
      (t ∷ ts) i.later r (
        w,
        (v.are_inner.0, (v.are_inner.1.0, (v.are_inner.1.1.0, (v.are_inner.1.1.1.0, i.are_inner)))),
        v.is_size,
        v.is_code,
        i.ends,
      )
      (ap (λ (xs : List DumpToken). t ∷ v.type ∷ v.size ∷ v.code ∷ v.first ∷ xs)
      (append_assoc i.inner (i.stop ∷ []) i.later ∙ i.parts) ∙ ap (λ (xs : List DumpToken). t ∷ xs) (sym v.parts))
      (λ ps. sym (append_assoc vars (d ∷ []) (declared_by scopes ps))) (next scopes (vars ++ d ∷ []) i.later r less e)

  at-var : words.Var ≡ word_of t.text → var_type scopes vars t ts ≡ Ok r → Parts scopes vars (t ∷ ts) r
  at-var w e =
      let v = variable-ok scopes vars t r ts e in
      let m =
      more-ok scopes vars t r (record { type = v.type.text; size = v.number; code = v.code.text }) v.first.text
      v.rest v.read in
      var-part v m.0 w m.1

  at-other : words.Other ≡ word_of t.text → skipped_section scopes vars t ts ≡ Ok r → Parts scopes vars (t ∷ ts) r
  at-other w e =
      let m = skipped-ok scopes vars t r ts e in
      put-part scopes scopes vars vars (Skipped t m.0.inner m.0.stop) (t ∷ ts) m.0.later r (w, m.0.are_inner, m.0.ends)
      (ap (λ (xs : List DumpToken). t ∷ xs) (append_assoc m.0.inner (m.0.stop ∷ []) m.0.later ∙ m.0.parts))
      (λ ps. refl) (next scopes vars m.0.later r (omega (arith, m.0.shorter)) m.1)

  at-word : (w : Word) → w ≡ word_of t.text → header scopes vars (t ∷ ts) ≡ Ok r → Parts scopes vars (t ∷ ts) r
  at-word words.Ends w e = at-ends w (sym (header-word scopes vars t ts words.Ends w) ∙ e)
  at-word words.Scope w e = at-scope w (sym (header-word scopes vars t ts words.Scope w) ∙ e)
  at-word words.Upscope w e = at-upscope w (sym (header-word scopes vars t ts words.Upscope w) ∙ e)
  at-word words.Var w e = at-var w (sym (header-word scopes vars t ts words.Var w) ∙ e)
  at-word words.Other w e = at-other w (sym (header-word scopes vars t ts words.Other w) ∙ e)
  at-word words.NoWord w e = let b = header-word scopes vars t ts words.NoWord w in absurd (cc (b, e))

found-parts : (n : ℕ) (scopes : List (List ℕ)) (vars : List Declared) (ts : List DumpToken) (r : Header) → length ts ≤ n
    → header scopes vars ts ≡ Ok r → Parts scopes vars ts r
found-parts n scopes vars [] r le e = let b = header-none scopes vars [] refl in absurd (cc (b, e))
found-parts zero scopes vars (t ∷ ts) r le e = absurd (omega arith)
found-parts (suc n) scopes vars (t ∷ ts) r le e =
    at-word n (λ s v us q. found-parts n s v us q) scopes vars t ts r (omega arith) (word_of t.text) refl e

-- a reading of the body's tokens by entries
record Reading (declared : List (List ℕ)) (count now : ℕ) (ts : List DumpToken) (r : Rest) : Type 0 where
  entries : List Entry
  spelled : flat_map entry_tokens entries ≡ ts
  each : AllByRecursion (IsEntry declared) entries
  rises : Rises now entries
  few : count + changes_in entries ≤ most_changes
  means : said_rest now entries ≡ r

change-ok : (c : ValueChange) (count now : ℕ) (next : Next) (r : Rest) → with_change c count now next ≡ Ok r
    → (count < most_changes) × ((s : Rest) × (next (suc count) now ≡ Ok s) × ((c ∷ s.0, s.1) ≡ r))
change-ok c count now next r e = elim (cases_lt count most_changes) [
  | inl lt ↦ let b : ltb count most_changes ≡ true =
      lt-ltb _ _ lt in (lt, pushed c (next (suc count) now) r (rw b at e))
  | inr ge ↦ let b : ltb count most_changes ≡ false = le-ltb _ _ ge in absurd (let e' = rw b at e in cc)
]
  where
    pushed : (c : ValueChange) (read : Result Rest Fault) (r : Rest) → (read >>= λ s. Ok (c ∷ s.0, s.1)) ≡ Ok r
        → (s : Rest) × (read ≡ Ok s) × ((c ∷ s.0, s.1) ≡ r)
    pushed c (Ok s) r e = (s, refl, cc)
    pushed c (Err f) r e = absurd cc

step-ok : (time : ℕ) (read : Result Rest Fault) (r : Rest) → with_step time read ≡ Ok r → (s : Rest) × (read ≡ Ok s)
    × (([], record { time = time; changes = s.0 } ∷ s.1) ≡ r)
step-ok time (Ok s) r e = (s, refl, cc)
step-ok time (Err f) r e = absurd cc

time-same : (time at count now : ℕ) (next : Next) → ltb time now ≡ false → eqb time now ≡ true
    → with_time time at count now next ≡ next count now
time-same time at count now next b p = rw (b, p) refl

time-later : (time at count now : ℕ) (next : Next) → ltb time now ≡ false → eqb time now ≡ false
    → with_time time at count now next ≡ with_step time (next count time)
time-later time at count now next b p = rw (b, p) refl

said-same : (now time : ℕ) (t : DumpToken) (es : List Entry) → eqb time now ≡ true → said_rest now (Instant t time ∷ es)
    ≡ said_rest now es
said-same now time t es p = rw p refl

said-later : (now time : ℕ) (t : DumpToken) (es : List Entry) → eqb time now ≡ false
    → said_rest now (Instant t time ∷ es)
    ≡ ([], record { time = time; changes = (said_rest time es).0 } ∷ (said_rest time es).1)
said-later now time t es p = rw p refl

section-ok : (declared : List (List ℕ)) (len count now word : ℕ) (ts : List DumpToken) (r : Rest)
    → section declared len count now word ts ≡ Ok r → (i : Inner ts) × (body declared len count now i.later ≡ Ok r)
section-ok declared len count now word [] r e =
    let n = section-none declared len count now word [] refl in absurd (cc (n, e))
section-ok declared len count now word (t ∷ ts) r e = elim (tells (is_end t.text)) [
  | inl h ↦ (
    record { inner = []; stop = t; later = ts; parts = refl; are_inner = tt; ends = h; shorter = omega arith },
    sym (section-end declared len count now word (t ∷ ts) t.text t.at ts refl h) ∙ e,
  )
  | inr h ↦
      let s =
      section-ok declared len count now word ts r
      (sym (section-more declared len count now word (t ∷ ts) t.text t.at ts refl h) ∙ e) in (
        record {
          inner = t ∷ s.0.inner;
          stop = s.0.stop;
          later = s.0.later;
          parts = ap (λ (xs : List DumpToken). t ∷ xs) s.0.parts;
          are_inner = (h, s.0.are_inner);
          ends =
              s.0.ends;
          shorter = omega (arith, s.0.shorter);
        },
        s.1,
      )
]

module _ (declared : List (List ℕ)) (len n : ℕ) (next : (count now : ℕ) (ts : List DumpToken) (r : Rest) → length ts ≤ n
    → count ≤ most_changes → body declared len count now ts ≡ Ok r → Reading declared count now ts r) (count now : ℕ)
    (room : count ≤ most_changes) where
  at_time : (time : ℕ) (t : DumpToken) (ts : List DumpToken) (r : Rest) → length ts ≤ n → kind_of t.text ≡ Time time
      → with_time time t.at count now (λ c m. body declared len c m ts) ≡ Ok r → Reading declared count now (t ∷ ts) r
  at_time time t ts r le k e =
      elim (cases_lt time now) [
        | inl lt ↦ let b : ltb time now ≡ true = lt-ltb _ _ lt in absurd (let e' = rw b at e in cc)
        | inr up ↦
            let b : ltb time now ≡ false = le-ltb _ _ up in
            elim (eqb_tells time now) [
              | inl p ↦
                  let s =
                  next count now ts r le room
                  (sym (time-same time t.at count now (λ c m. body declared len c m ts) b p.0) ∙ e) in
                  record {
                    entries = Instant t time ∷ s.entries;
                    spelled = ap (λ (xs : List DumpToken). t ∷ xs) s.spelled;
                    each = (k, s.each);
                    rises =
                        (up, subst (λ (m : ℕ). Rises m s.entries) (sym p.1) s.rises);
                    few = s.few;
                    means =
                        said-same now time t s.entries p.0 ∙ s.means;
                  }
              | inr p ↦
                  let w =
                  step-ok time (body declared len count time ts) r
                  (sym (time-later time t.at count now (λ c m. body declared len c m ts) b p.0) ∙ e) in
                  let s = next count time ts w.0 le room w.1 in
                  record {
                    entries = Instant t time ∷ s.entries;
                    spelled = ap (λ (xs : List DumpToken). t ∷ xs) s.spelled;
                    each = (k, s.each);
                    rises =
                        (up, s.rises);
                    few = s.few;
                    means = said-later now time t s.entries p.0
                        ∙ ap (λ (q : Rest). ([], record { time = time; changes = q.0 } ∷ q.1)) s.means ∙ w.2;
                  }
            ]
      ]

  -- a change, in front of what follows it
  at_change : (front : List DumpToken) (entry : Entry) (c : ValueChange) (rest : List DumpToken) (r : Rest)
      → length rest ≤ n → IsEntry declared entry → entry_tokens entry ≡ front
      → ((es : List Entry) → Rises now es → Rises now (entry ∷ es))
      → ((es : List Entry) → changes_in (entry ∷ es) ≡ suc (changes_in es))
      → ((es : List Entry) → said_rest now (entry ∷ es) ≡ (c ∷ (said_rest now es).0, (said_rest now es).1))
      → with_change c count now (λ k m. body declared len k m rest) ≡ Ok r
      → Reading declared count now (front ++ rest) r
  at_change front entry c rest r le is spells up one says e =
      let w = change-ok c count now (λ k m. body declared len k m rest) r e in
      let s = next (suc count) now rest w.1.0 le w.0 w.1.1 in
      record {
        entries = entry ∷ s.entries;
        spelled =
            ap (λ (xs : List DumpToken). xs ++ flat_map entry_tokens s.entries) spells
            ∙ ap (λ (xs : List DumpToken). front ++ xs) s.spelled;
        each = (is, s.each);
        rises = up s.entries s.rises;
        few = omega (arith, one s.entries, s.few);
        means = says s.entries ∙ ap (λ (q : Rest). (c ∷ q.0, q.1)) s.means ∙ w.1.2;
      }

  -- an entry that says nothing
  at_nothing : (front : List DumpToken) (entry : Entry) (rest : List DumpToken) (r : Rest) → length rest ≤ n
      → IsEntry declared entry → entry_tokens entry ≡ front
      → ((es : List Entry) → Rises now es → Rises now (entry ∷ es))
      → ((es : List Entry) → changes_in (entry ∷ es) ≡ changes_in es)
      → ((es : List Entry) → said_rest now (entry ∷ es) ≡ said_rest now es)
      → body declared len count now rest ≡ Ok r → Reading declared count now (front ++ rest) r
  at_nothing front entry rest r le is spells up none says e =
      let s = next count now rest r le room e in
      record {
        entries = entry ∷ s.entries;
        spelled =
            ap (λ (xs : List DumpToken). xs ++ flat_map entry_tokens s.entries) spells
            ∙ ap (λ (xs : List DumpToken). front ++ xs) s.spelled;
        each = (is, s.each);
        rises = up s.entries s.rises;
        few = omega (arith, none s.entries, s.few);
        means = says s.entries ∙ s.means;
      }

  at_scalar : (digit : ℕ) (t : DumpToken) (ts : List DumpToken) (r : Rest) (text : List ℕ) (o : Option ℕ)
      → text ≡ behind_first t.text → o ≡ place_of declared text → length ts ≤ n → kind_of t.text ≡ Scalar digit
      → scalar declared len digit text t.at count now (λ k m. body declared len k m ts) ≡ Ok r
      → Reading declared count now (t ∷ ts) r
  at_scalar digit t ts r [] o is at le k e = absurd cc
  at_scalar digit t ts r (b ∷ bs) None is at le k e = absurd (let e' = rw (← at) at e in cc)
  at_scalar digit t ts r (b ∷ bs) (Some v) is at le k e =
      at_change (t ∷ []) (Bit t (record { code = v; digits = digit ∷ [] })) (record { code = v; digits = digit ∷ [] })
      ts r le
      (digit, k, refl, rw (← is) refl, rw (← is) (sym at)) refl (λ es h. h) (λ es. refl) (λ es. refl) (rw (← at) at e)

  at_vector : (digits : List ℕ) (t u : DumpToken) (ts : List DumpToken) (r : Rest) (o : Option ℕ)
      → o ≡ place_of declared u.text → length ts ≤ n → kind_of t.text ≡ Vector digits
      → change_by_code o u.text digits u.at count now (λ k m. body declared len k m ts) ≡ Ok r
      → Reading declared count now (t ∷ u ∷ ts) r
  at_vector digits t u ts r None at le k e = absurd cc
  at_vector digits t u ts r (Some v) at le k e =
      at_change (t ∷ u ∷ []) (Digits t u (record { code = v; digits = digits })) (record { code = v; digits = digits })
      ts r le (k, sym at) refl (λ es h. h) (λ es. refl) (λ es. refl) e

  vector-none : (digits : List ℕ) (r : Rest) → vector declared len count now digits [] ≡ Ok r → ⊥
  unfolding body vector
  vector-none digits r e = cc

  ignored-none : (r : Rest) → behind_ignored declared len count now [] ≡ Ok r → ⊥
  unfolding body behind_ignored
  ignored-none r e = cc

  at_token : (t : DumpToken) (ts : List DumpToken) (r : Rest) (kind : Kind) → kind_of t.text ≡ kind → length ts ≤ n
      → by_kind kind declared len t count now (λ c m. body declared len c m ts)
      (λ digits. vector declared len count now digits ts) (behind_ignored declared len count now ts)
      (section declared len count now t.at ts) ≡ Ok r → Reading declared count now (t ∷ ts) r
  at_token t ts r (Time time) k le e = at_time time t ts r le k e
  at_token t ts r (Scalar digit) k le e =
      at_scalar digit t ts r (behind_first t.text) (place_of declared (behind_first t.text)) refl refl le k e
  at_token t [] r (Vector digits) k le e = absurd (vector-none digits r e)
  at_token t (u ∷ ts) r (Vector digits) k le e =
      at_vector digits t u ts r (place_of declared u.text) refl (omega arith) k
      (sym (vector-cons declared len count now digits u ts) ∙ e)
  at_token t [] r Text k le e = absurd (ignored-none r e)
  at_token t (u ∷ ts) r Text k le e =
      at_nothing (t ∷ u ∷ []) (Ignored t u) ts r (omega arith) k refl (λ es h. h) (λ es. refl) (λ es. refl)
      (sym (ignored-cons declared len count now u ts) ∙ e)
  at_token t ts r Lone k le e = at_nothing (t ∷ []) (Alone t) ts r le k refl (λ es h. h) (λ es. refl) (λ es. refl) e
  at_token t ts r Section k le e =
      let s = section-ok declared len count now t.at ts r e in
      let q =
      at_nothing (t ∷ s.0.inner ++ s.0.stop ∷ []) (Comment t s.0.inner s.0.stop) s.0.later r
      (omega (arith, s.0.shorter)) (k, s.0.are_inner, s.0.ends) refl (λ es h. h) (λ es. refl) (λ es. refl) s.1 in
      subst (λ (xs : List DumpToken). Reading declared count now (t ∷ xs) r)
      (append_assoc s.0.inner (s.0.stop ∷ []) s.0.later ∙ s.0.parts) q
  at_token t ts r Bad k le e = absurd cc

found : (n : ℕ) (declared : List (List ℕ)) (len count now : ℕ) (ts : List DumpToken) (r : Rest) → length ts ≤ n
    → count ≤ most_changes → body declared len count now ts ≡ Ok r → Reading declared count now ts r
found n declared len count now [] r le room e =
    let b = body-nil declared len count now in
    record { entries = []; spelled = refl; each = tt; rises = tt; few = omega arith; means = cc (b, e) }
found zero declared len count now (t ∷ ts) r le room e = absurd (omega arith)
found (suc n) declared len count now (t ∷ ts) r le room e =
    at_token declared len n (λ k m us s. found n declared len k m us s) count now room t ts r (kind_of t.text) refl
    (omega arith) (sym (body-kind declared len count now t ts (kind_of t.text) refl) ∙ e)

bind-ok : {A B : Type 0} (read : Result A Fault) (go : A → Result B Fault) (b : B) → (read >>= go) ≡ Ok b → (a : A)
    × (read ≡ Ok a) × (go a ≡ Ok b)
bind-ok (Ok a) go b e = (a, refl, e)
bind-ok (Err f) go b e = absurd cc

pub finds-dump : (bytes : List ℕ) (c : Contents) → dump_of bytes ≡ Ok c → IsDump bytes c
unfolding dump_of contents_behind
finds-dump bytes c e =
    let a = bind-ok (header [] [] (tokens 0 bytes)) (contents_behind (length bytes)) c e in
    let b =
    bind-ok (steps_of (body (codes_of a.0.0) (length bytes) 0 0 a.0.1))
    (λ (steps : List Moment). let x : Result Contents Fault = Ok (record { variables = a.0.0; steps = steps }) in
    x) c a.2 in
    let s =
    bind-ok (body (codes_of a.0.0) (length bytes) 0 0 a.0.1)
    (λ (r : Rest). let x : Result (List Moment) Fault = Ok (record { time = 0; changes = r.0 } ∷ r.1) in x) b.0
    b.1 in
    let p = found-parts (length (tokens 0 bytes)) [] [] (tokens 0 bytes) a.0 (omega arith) a.1 in
    let q = found (length a.0.1) (codes_of a.0.0) (length bytes) 0 0 a.0.1 s.0 (omega arith) (omega arith) s.1 in
    let is : (let d : Contents = record { variables = a.0.0; steps = b.0 } in d) ≡ c = let h = b.2 in cc in
    let moments : record { time = 0; changes = s.0.0 } ∷ s.0.1 ≡ b.0 = let h = s.2 in cc in
    record {
      parts = p.parts;
      ends = p.ends;
      stop = p.stop;
      entries = q.entries;
      spelled =
          ap (λ (xs : List DumpToken). flat_map part_tokens p.parts ++ p.ends ∷ p.stop ∷ xs) q.spelled ∙ p.spelled;
      are_parts = p.are_parts;
      definitions_end = (p.is_ends, p.is_stop);
      are_entries = subst (λ (d : Contents). AllByRecursion (IsEntry (codes_of d.variables)) q.entries) is q.each;
      rises = q.rises;
      bounded = omega (arith, q.few);
      variables = p.means ∙ ap (λ (d : Contents). d.variables) is;
      steps =
          ap (λ (r : Rest). let ms : List Moment = record { time = 0; changes = r.0 } ∷ r.1 in ms) q.means ∙ moments
          ∙ ap (λ (d : Contents). d.steps) is;
    }
