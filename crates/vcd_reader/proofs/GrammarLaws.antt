-- What is spelled as a dump is read.
use Rattle.std.proofs.Common.{◌≡◌, ℕ, suc, ◌+◌, ◌^◌, ◌≤◌, ◌<◌, List, [], ◌∷◌, ◌++◌, true, false, cond, eqb, ltb, Option}
use Rattle.std.proofs.Common.{Some, Ok, refl, sym, ap, ◌∙◌, inl, inr, append_assoc, arith, length}
use Rattle.std.specs.List.{flat_map, list_all, AllByRecursion}
use Rattle.std.proofs.lemmas.Bool.{le-ltb, lt-ltb}
use Rattle.std.proofs.lemmas.List.{append-nil}
use Rattle.std.proofs.lemmas.Bool.Decides.{eqb_tells}
use Rattle.vcd_reader.specs.declared.header.Word.{Word}
use Rattle.vcd_reader.specs.declared.header.Word.TheVariants as words
use Rattle.vcd_reader.specs.Tokens.{DumpToken, tokens}
use Rattle.vcd_reader.specs.Numbers.{is_empty, decimal_below}
use Rattle.vcd_reader.specs.Values.{ValueChange, Moment}
use Rattle.vcd_reader.specs.Variables.{Declared, is_code_byte, codes_of, place_of}
use Rattle.vcd_reader.specs.Header.{Head, is_end, outer_scopes, variable, word_of, by_word, header_end, header}
use Rattle.vcd_reader.specs.Header.{closing_token, skipped_section, scope_type, scope_name, var_type, var_size}
use Rattle.vcd_reader.specs.Header.{var_code, var_reference, var_more}
use Rattle.vcd_reader.specs.Body.{Kind, Time, Scalar, Vector, Text, Lone, Section, Rest, Next, kind_of, behind_first}
use Rattle.vcd_reader.specs.Body.{most_changes, with_change, with_step, with_time, change_by_code, scalar, by_kind}
use Rattle.vcd_reader.specs.Body.{body, section, vector, behind_ignored}
use Rattle.vcd_reader.specs.Dump.{Contents, dump_of, contents_behind}
use Rattle.vcd_reader.specs.Grammar.{AreInner, IsEnd, Part, Opens, Closes, Declares, Skipped, part_tokens, IsPart}
use Rattle.vcd_reader.specs.Grammar.{joined_text, declared_by, Entry, Instant, Bit, Digits, Ignored, Alone, Comment}
use Rattle.vcd_reader.specs.Grammar.{entry_tokens, IsEntry, Rises, changes_in, said_rest, steps_said, IsDump}

-- sections of the header
module _ (scopes : List (List ℕ)) (vars : List Declared) where
  pub header-word : (t : DumpToken) (ts : List DumpToken) (w : Word) → w ≡ word_of t.text → header scopes vars (t ∷ ts)
      ≡ by_word w t (header_end vars t ts) (scope_type scopes vars t ts)
      (closing_token (outer_scopes scopes) vars t ts) (var_type scopes vars t ts) (skipped_section scopes vars t ts)
  unfolding header
  header-word t ts w e = rw e refl

  closed-end : (word stop : DumpToken) (ts : List DumpToken) → IsEnd stop → closing_token scopes vars word (stop ∷ ts)
      ≡ header scopes vars ts
  unfolding header closing_token
  closed-end word stop ts e = rw e refl

  skipped-inner : (word : DumpToken) (inner : List DumpToken) (stop : DumpToken) (ts : List DumpToken) → AreInner inner
      → IsEnd stop → skipped_section scopes vars word (inner ++ stop ∷ ts) ≡ header scopes vars ts
  unfolding header skipped_section
  skipped-inner word [] stop ts all e = rw e refl
  skipped-inner word (t ∷ inner) stop ts all e = let h = all.0 in rw h (skipped-inner word inner stop ts all.1 e)

  scope-read : (word type name stop : DumpToken) (ts : List DumpToken) → is_end type.text ≡ false
      → is_end name.text ≡ false → scope_type scopes vars word (type ∷ name ∷ stop ∷ ts)
      ≡ closing_token (scopes ++ name.text ∷ []) vars word (stop ∷ ts)
  unfolding header scope_type scope_name
  scope-read word type name stop ts a b = rw (a, b) refl

  more-read : (word : DumpToken) (h : Head) (text : List ℕ) (more : List DumpToken) (stop : DumpToken)
      (ts : List DumpToken) → AreInner more → IsEnd stop → var_more scopes vars word h text (more ++ stop ∷ ts)
      ≡ header scopes (vars ++ variable scopes h (text ++ joined_text more) ∷ []) ts
  unfolding header var_more
  more-read word h text [] stop ts all e =
      rw e (ap (λ (r : List ℕ). header scopes (vars ++ variable scopes h r ∷ []) ts) (sym (append-nil text)))
  more-read word h text (t ∷ more) stop ts all e =
      let i = all.0 in
      rw i (more-read word h (text ++ t.text) more stop ts all.1 e
      ∙ ap (λ (r : List ℕ). header scopes (vars ++ variable scopes h r ∷ []) ts)
      (append_assoc text t.text (joined_text more)))

  var-read : (word type size code first : DumpToken) (n : ℕ) (ts : List DumpToken) → is_end type.text ≡ false
      → is_end size.text ≡ false → is_end code.text ≡ false → is_end first.text ≡ false
      → decimal_below (2 ^ 32) size.text ≡ Some n → list_all is_code_byte code.text ≡ true
      → var_type scopes vars word (type ∷ size ∷ code ∷ first ∷ ts)
      ≡ var_more scopes vars word (record { type = type.text; size = n; code = code.text }) first.text ts
  unfolding header var_type var_size var_code var_reference
  var-read word type size code first n ts a b c d e f = rw (a, b, e, c, f, d) refl

reads-parts : (scopes : List (List ℕ)) (vars : List Declared) (ps : List Part) (ends stop : DumpToken)
    (ts : List DumpToken) → AllByRecursion IsPart ps → words.Ends ≡ word_of ends.text → IsEnd stop
    → header scopes vars (flat_map part_tokens ps ++ ends ∷ stop ∷ ts) ≡ Ok (vars ++ declared_by scopes ps, ts)
reads-parts scopes vars [] ends stop ts all w e =
    header-word scopes vars ends (stop ∷ ts) words.Ends w
    ∙ rw e (ap (λ (vs : List Declared). Ok (vs, ts)) (sym (append-nil vars)))
reads-parts scopes vars (Opens word type name s ∷ ps) ends stop ts all w e =
    let rest = flat_map part_tokens ps ++ ends ∷ stop ∷ ts in
    header-word scopes vars word (type ∷ name ∷ s ∷ rest) words.Scope all.0.0
    ∙ scope-read scopes vars word type name s rest all.0.1.0 all.0.1.1.0
    ∙ closed-end (scopes ++ name.text ∷ []) vars word s rest all.0.2
    ∙ reads-parts (scopes ++ name.text ∷ []) vars ps ends stop ts all.1 w e
reads-parts scopes vars (Closes word s ∷ ps) ends stop ts all w e =
    let rest = flat_map part_tokens ps ++ ends ∷ stop ∷ ts in
    header-word scopes vars word (s ∷ rest) words.Upscope all.0.0
    ∙ closed-end (outer_scopes scopes) vars word s rest all.0.1
    ∙ reads-parts (outer_scopes scopes) vars ps ends stop ts all.1 w e
reads-parts scopes vars (Declares word type size n code first more s ∷ ps) ends stop ts all w e =
    let rest = flat_map part_tokens ps ++ ends ∷ stop ∷ ts in
    let h : Head = record { type = type.text; size = n; code = code.text } in
    let v = variable scopes h (first.text ++ joined_text more) in
    let flat : (more ++ s ∷ []) ++ flat_map part_tokens ps ++ ends ∷ stop ∷ ts ≡ more ++ s ∷ rest =
    ap (λ (xs : List DumpToken). xs ++ ends ∷ stop ∷ ts) (append_assoc more (s ∷ []) (flat_map part_tokens ps))
    ∙ append_assoc more (s ∷ flat_map part_tokens ps) (ends ∷ stop ∷ ts) in
    ap (λ (xs : List DumpToken). header scopes vars (word ∷ type ∷ size ∷ code ∷ first ∷ xs)) flat
    ∙ header-word scopes vars word (type ∷ size ∷ code ∷ first ∷ more ++ s ∷ rest) words.Var all.0.0
    ∙ var-read scopes vars word type size code first n (more ++ s ∷ rest) all.0.1.0 all.0.1.1.0 all.0.1.1.1.0
    all.0.1.1.1.1.0 all.0.2 all.0.3
    ∙ more-read scopes vars word h first.text more s rest all.0.1.1.1.1.1 all.0.4
    ∙ reads-parts scopes (vars ++ v ∷ []) ps ends stop ts all.1 w e
    ∙ ap (λ (vs : List Declared). Ok (vs, ts)) (append_assoc vars (v ∷ []) (declared_by scopes ps))
reads-parts scopes vars (Skipped word inner s ∷ ps) ends stop ts all w e =
    let rest = flat_map part_tokens ps ++ ends ∷ stop ∷ ts in
    let flat : (inner ++ s ∷ []) ++ flat_map part_tokens ps ++ ends ∷ stop ∷ ts ≡ inner ++ s ∷ rest =
    ap (λ (xs : List DumpToken). xs ++ ends ∷ stop ∷ ts) (append_assoc inner (s ∷ []) (flat_map part_tokens ps))
    ∙ append_assoc inner (s ∷ flat_map part_tokens ps) (ends ∷ stop ∷ ts) in
    ap (λ (xs : List DumpToken). header scopes vars (word ∷ xs)) flat
    ∙ header-word scopes vars word (inner ++ s ∷ rest) words.Other all.0.0
    ∙ skipped-inner scopes vars word inner s rest all.0.1 all.0.2
    ∙ reads-parts scopes vars ps ends stop ts all.1 w e

-- entries of the body
module _ (declared : List (List ℕ)) (len count now : ℕ) where
  pub body-kind : (t : DumpToken) (ts : List DumpToken) (k : Kind) → kind_of t.text ≡ k
      → body declared len count now (t ∷ ts) ≡ by_kind k declared len t count now (λ c n. body declared len c n ts)
      (λ digits. vector declared len count now digits ts) (behind_ignored declared len count now ts)
      (section declared len count now t.at ts)
  unfolding body
  body-kind t ts k e = rw e refl

  section-inner : (word : ℕ) (inner : List DumpToken) (stop : DumpToken) (ts : List DumpToken) → AreInner inner
      → IsEnd stop → section declared len count now word (inner ++ stop ∷ ts) ≡ body declared len count now ts
  unfolding body section
  section-inner word [] stop ts all e = rw e refl
  section-inner word (t ∷ inner) stop ts all e = let h = all.0 in rw h (section-inner word inner stop ts all.1 e)

  pub vector-cons : (digits : List ℕ) (t : DumpToken) (ts : List DumpToken)
      → vector declared len count now digits (t ∷ ts) ≡ change_by_code (place_of declared t.text) t.text digits t.at
      count now (λ c n. body declared len c n ts)
  unfolding body vector
  vector-cons digits t ts = refl

  pub ignored-cons : (t : DumpToken) (ts : List DumpToken) → behind_ignored declared len count now (t ∷ ts)
      ≡ body declared len count now ts
  unfolding body behind_ignored
  ignored-cons t ts = refl

pub body-nil : (declared : List (List ℕ)) (len count now : ℕ) → body declared len count now [] ≡ Ok ([], [])
unfolding body
body-nil declared len count now = refl

change-said : (c : ValueChange) (count now : ℕ) (next : Next) (r : Rest) → count < most_changes → next (suc count) now
    ≡ Ok r → with_change c count now next ≡ Ok (c ∷ r.0, r.1)
change-said c count now next r lt e = let t : ltb count most_changes ≡ true = lt-ltb _ _ lt in rw (t, e) refl

timed : (count now time at : ℕ) (next : Next) (same later : Rest) → now ≤ time → next count time ≡ Ok later
    → (time ≡ now → later ≡ same)
    → with_time time at count now next
    ≡ Ok (cond (eqb time now) same ([], record { time = time; changes = later.0 } ∷ later.1))
timed count now time at next same later le e h =
    let up : ltb time now ≡ false = le-ltb _ _ le in
    elim (eqb_tells time now) [
      | inl p ↦ rw (up, p.0) (ap (next count) (sym p.1) ∙ e ∙ ap (λ (r : Rest). Ok r) (h p.1))
      | inr p ↦ rw (up, p.0) (ap (with_step time) e)
    ]

scalar-read : (declared : List (List ℕ)) (len digit : ℕ) (text : List ℕ) (at count now n : ℕ) (next : Next)
    → is_empty text ≡ false → place_of declared text ≡ Some n → scalar declared len digit text at count now next
    ≡ with_change (record { code = n; digits = digit ∷ [] }) count now next
scalar-read declared len digit [] at count now n next e p = absurd cc
scalar-read declared len digit (c ∷ cs) at count now n next e p = rw p refl

pub reads-entries : (declared : List (List ℕ)) (len count now : ℕ) (es : List Entry)
    → AllByRecursion (IsEntry declared) es → Rises now es → count + changes_in es ≤ most_changes
    → body declared len count now (flat_map entry_tokens es) ≡ Ok (said_rest now es)
reads-entries declared len count now [] all rises few = body-nil declared len count now
reads-entries declared len count now (Instant t time ∷ es) all rises few =
    body-kind declared len count now t (flat_map entry_tokens es) (Time time) all.0
    ∙ timed count now time t.at (λ c n. body declared len c n (flat_map entry_tokens es)) (said_rest now es)
    (said_rest time es) rises.0 (reads-entries declared len count time es all.1 rises.1 few)
    (λ e. ap (λ (n : ℕ). said_rest n es) e)
reads-entries declared len count now (Bit t c ∷ es) all rises few =
    body-kind declared len count now t (flat_map entry_tokens es) (Scalar all.0.0) all.0.1
    ∙ scalar-read declared len all.0.0 (behind_first t.text) t.at count now c.code
    (λ k n. body declared len k n (flat_map entry_tokens es)) all.0.3 all.0.4
    ∙ ap (λ (ds : List ℕ). with_change (record { code = c.code; digits = ds }) count now
    (λ k n. body declared len k n (flat_map entry_tokens es))) (sym all.0.2)
    ∙ change-said c count now (λ k n. body declared len k n (flat_map entry_tokens es)) (said_rest now es) (omega arith)
    (reads-entries declared len (suc count) now es all.1 rises (omega arith))
reads-entries declared len count now (Digits t code c ∷ es) all rises few =
    let next : Next = λ k n. body declared len k n (flat_map entry_tokens es) in
    body-kind declared len count now t (code ∷ flat_map entry_tokens es) (Vector c.digits) all.0.0
    ∙ vector-cons declared len count now c.digits code (flat_map entry_tokens es)
    ∙ ap (λ (o : Option ℕ). change_by_code o code.text c.digits code.at count now next) all.0.1
    ∙ change-said c count now next (said_rest now es) (omega arith)
    (reads-entries declared len (suc count) now es all.1 rises (omega arith))
reads-entries declared len count now (Ignored t u ∷ es) all rises few =
    body-kind declared len count now t (u ∷ flat_map entry_tokens es) Text all.0
    ∙ ignored-cons declared len count now u (flat_map entry_tokens es)
    ∙ reads-entries declared len count now es all.1 rises few
reads-entries declared len count now (Alone t ∷ es) all rises few =
    body-kind declared len count now t (flat_map entry_tokens es) Lone all.0
    ∙ reads-entries declared len count now es all.1 rises few
reads-entries declared len count now (Comment word inner stop ∷ es) all rises few =
    ap (λ (ts : List DumpToken). body declared len count now (word ∷ ts))
    (append_assoc inner (stop ∷ []) (flat_map entry_tokens es))
    ∙ body-kind declared len count now word (inner ++ stop ∷ flat_map entry_tokens es) Section all.0.0
    ∙ section-inner declared len count now word.at inner stop (flat_map entry_tokens es) all.0.1 all.0.2
    ∙ reads-entries declared len count now es all.1 rises few

contents-is : (c : Contents) (vs : List Declared) (ms : List Moment) → vs ≡ c.variables → ms ≡ c.steps
    → (let d : Contents = record { variables = vs; steps = ms } in d) ≡ c
contents-is c vs ms a b = rw (a, b) refl

pub reads-dump : (bytes : List ℕ) (c : Contents) → IsDump bytes c → dump_of bytes ≡ Ok c
unfolding dump_of contents_behind
reads-dump bytes c d =
    let front : header [] [] (tokens 0 bytes) ≡ Ok (declared_by [] d.parts, flat_map entry_tokens d.entries) =
    ap (header [] []) (sym d.spelled) ∙ reads-parts [] [] d.parts d.ends d.stop (flat_map entry_tokens d.entries)
    d.are_parts d.definitions_end.0 d.definitions_end.1 in
    let back : body (codes_of c.variables) (length bytes) 0 0 (flat_map entry_tokens d.entries)
    ≡ Ok (said_rest 0 d.entries) = reads-entries (codes_of c.variables) (length bytes) 0 0 d.entries d.are_entries
    d.rises (omega (arith, d.bounded)) in
    let v = d.variables in
    rw (front, v, back) (ap (λ (x : Contents). Ok x) (contents-is c c.variables (steps_said d.entries) refl d.steps))
