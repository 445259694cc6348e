use Rattle.std.proofs.Common.{◌≡◌, ◌∙◌, ◌++◌, ◌∷◌, [], ℕ, List, Result, Ok, map}
use Rattle.std.proofs.Common.{append_assoc, sym, ap, subst, arith}
use Rattle.std.proofs.lemmas.List.{append-nil, map-append}
use Rattle.vcd_reader.specs.declared.fault.Fault.{Fault}
use Rattle.vcd_reader.specs.declared.scope.Scope.{Scope}
use Rattle.vcd_reader.specs.declared.variable.Variable.{Variable}
use Rattle.vcd_reader.specs.Tokens.{DumpToken}
use Rattle.vcd_reader.specs.Variables.{Declared}
use Rattle.vcd_reader.specs.Stored.{declaration_of, declaration_in}
use Rattle.vcd_reader.specs.Header.{Header, header}
use Rattle.vcd_reader.specs.Scopes.{open_scopes, IsTree}
use Rattle.vcd_reader.specs.Sections.{text_at, tokens_at}
use Rattle.vcd_reader.proofs.HeaderLaws.{header-none, fails-along}
use Rattle.vcd_reader.proofs.ResumedLaws.{resumed-err}
use Rattle.vcd_reader.proofs.ScopeLaws.{opened-top, opened-kept, tree-none}
use Rattle.vcd_reader.proofs.header.read_header.Goals as goal

pub sections-init : goal.sections-init
sections-init c =
    let scopes = c.new-scopes.result.items in
    record {
      high = omega arith;
      tree = subst (λ (ss : List Scope). IsTree ss) (sym c.new-scopes.ensures.items) tree-none;
      inside = omega arith;
      same = λ more.
          ap (λ (xs : List (List ℕ)). header xs [] (tokens_at c.args.bytes.now 0)) (sym (opened-top scopes))
          ∙ ap (λ (vs : List Variable). header (open_scopes scopes 0)
          (map (declaration_of (scopes ++ more)) vs) (tokens_at c.args.bytes.now 0))
          (sym c.new-variables.ensures.items);
    }

pub returns-in_default-clause-header : goal.returns-in_default-clause-header
returns-in_default-clause-header c = c.sections.invariant.same [] ∙ header-none _ _ _ c.in_default.ensures.tokens

pub returns-in_err-stop-clause-header : goal.returns-in_err-stop-clause-header
returns-in_err-stop-clause-header c =
    let scopes = open_scopes c.sections.scopes.items c.sections.scope in
    let vars = map (declaration_of (c.sections.scopes.items ++ [])) c.sections.variables.items in
    rw (resumed-err _ _ c.from_residual.ensures.1)
    (fails-along _ (c.sections.invariant.same []
    ∙ ap (λ (ts : List DumpToken). header scopes vars ts) c.in-Some.ensures.tokens)
    (c.in_err-stop.ensures.section scopes vars))

pub returns-in-Ended-clause-header : goal.returns-in-Ended-clause-header
returns-in-Ended-clause-header c =
    let scopes = open_scopes c.sections.scopes.items c.sections.scope in
    let vars = map (declaration_of (c.sections.scopes.items ++ [])) c.sections.variables.items in
    c.sections.invariant.same []
    ∙ ap (λ (ts : List DumpToken). header scopes vars ts) c.in-Some.ensures.tokens
    ∙ (rw c.in-Ended.is at c.in_ok-stop.ensures.section scopes vars)
    ∙ ap (λ (ss : List Scope). let r : Result Header Fault =
    Ok (map (declaration_of ss) c.sections.variables.items, tokens_at c.args.bytes.now c.in-Ended.stop) in r)
    (append-nil c.sections.scopes.items)

pub sections-preserved-in-Opened : goal.sections-preserved-in-Opened
sections-preserved-in-Opened c =
    let old = c.sections.scopes.items in
    let new = c.open_scope.new.scopes.items in
    let scopes = open_scopes old c.sections.scope in
    let name = text_at c.args.bytes.now c.in-Opened.name in
    let rest = tokens_at c.args.bytes.now c.in-Opened.stop in
    let grown = c.in_ok-scope-in-Opened.ensures.grown in
    let ends = rw c.in-Opened.is at c.in_ok-stop.ensures.high in
    record {
      high = ends.1;
      tree = c.in_ok-scope-in-Opened.ensures.tree;
      inside = c.in_ok-scope-in-Opened.ensures.inside;
      same = λ more.
          let vars = map (declaration_of (old ++ grown.0 ∷ more)) c.sections.variables.items in
          let longer : old ++ grown.0 ∷ more ≡ new ++ more =
          sym (append_assoc old (grown.0 ∷ []) more) ∙ ap (λ (ss : List Scope). ss ++ more) (sym grown.1) in
          c.sections.invariant.same (grown.0 ∷ more)
          ∙ ap (λ (ts : List DumpToken). header scopes vars ts) c.in-Some.ensures.tokens
          ∙ (rw c.in-Opened.is at c.in_ok-stop.ensures.section scopes vars)
          ∙ ap (λ (xs : List (List ℕ)). header xs vars rest) (sym c.in_ok-scope-in-Opened.ensures.opened)
          ∙ ap (λ (ss : List Scope). header (open_scopes new c.in_ok-scope-in-Opened.scope)
          (map (declaration_of ss) c.sections.variables.items) rest) longer;
    }

pub sections-preserved-in-Declared : goal.sections-preserved-in-Declared
sections-preserved-in-Declared c =
    let old = c.sections.scopes.items in
    let scopes = open_scopes old c.sections.scope in
    let v = c.in-Declared.variable in
    let rest = tokens_at c.args.bytes.now c.in-Declared.stop in
    let place = rw c.in-Declared.is at c.in_ok-stop.ensures.place in
    let ends = rw c.in-Declared.is at c.in_ok-stop.ensures.high in
    record {
      high = ends.1;
      tree = c.sections.invariant.tree;
      inside = c.sections.invariant.inside;
      same = λ more.
          let vars = map (declaration_of (old ++ more)) c.sections.variables.items in
          let one : declaration_in scopes v ≡ declaration_of (old ++ more) v =
          ap (λ (xs : List (List ℕ)). declaration_in xs v)
          (sym (opened-kept old more c.sections.scope c.sections.invariant.inside)
          ∙ ap (open_scopes (old ++ more)) (sym place)) in
          let all : vars ++ declaration_in scopes v ∷ [] ≡ map (declaration_of (old ++ more)) c.push.new.self.items =
          ap (λ (d : Declared). vars ++ d ∷ []) one
          ∙ sym (map-append (declaration_of (old ++ more)) c.sections.variables.items (v ∷ []))
          ∙ ap (λ (vs : List Variable). map (declaration_of (old ++ more)) vs)
          (sym c.in_ok-push-in-Declared.ensures.items) in
          c.sections.invariant.same more
          ∙ ap (λ (ts : List DumpToken). header scopes vars ts) c.in-Some.ensures.tokens
          ∙ (rw c.in-Declared.is at c.in_ok-stop.ensures.section scopes vars)
          ∙ ap (λ (ds : List Declared). header scopes ds rest) all;
    }
