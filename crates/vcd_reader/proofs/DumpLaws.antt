-- A dump from its two parts.
use Rattle.std.proofs.Common.{◌≡◌, ℕ, List, [], length, map, Result, Ok, Err, refl, ap, ◌∙◌}
use Rattle.vcd_reader.specs.declared.fault.Fault.{Fault}
use Rattle.vcd_reader.specs.declared.fault.ReadError.{ReadError}
use Rattle.vcd_reader.specs.declared.fault.ReadError.TheVariants as errors
use Rattle.vcd_reader.specs.declared.scope.Scope.{Scope}
use Rattle.vcd_reader.specs.declared.variable.Variable.{Variable}
use Rattle.vcd_reader.specs.Tokens.{DumpToken, tokens}
use Rattle.vcd_reader.specs.Faults.{◌>>=◌, Fails}
use Rattle.vcd_reader.specs.Values.{Moment}
use Rattle.vcd_reader.specs.Variables.{Declared}
use Rattle.vcd_reader.specs.Index.{codes_in}
use Rattle.vcd_reader.specs.Stored.{StoredStep, declaration_of, kept_step}
use Rattle.vcd_reader.specs.Kept.{kept_steps}
use Rattle.vcd_reader.specs.Header.{header}
use Rattle.vcd_reader.specs.Body.{body, steps_of}
use Rattle.vcd_reader.specs.Dump.{Contents, contents_behind, dump_of}
use Rattle.vcd_reader.proofs.LookupLaws.{codes-texts}

-- contents that are stored so
pub record Says (bytes : List ℕ) (vars : List Declared) (stored : List StoredStep) : Type 0 where
  pub contents : Contents
  pub read : dump_of bytes ≡ Ok contents
  pub variables : vars ≡ contents.variables
  pub steps : stored ≡ map kept_step contents.steps

finish : List Declared → Result (List Moment) Fault → Result Contents Fault
finish vars read = read >>= λ steps. Ok (record { variables = vars; steps = steps })

says : (bytes : List ℕ) (vars : List Declared) (stored : List StoredStep) (read : Result (List Moment) Fault)
    → kept_steps read ≡ Ok stored → dump_of bytes ≡ finish vars read → Says bytes vars stored
unfolding finish
says bytes vars stored (Ok ms) k e =
    record { contents = record { variables = vars; steps = ms }; read = e; variables = refl; steps = cc }
says bytes vars stored (Err f) k e = absurd cc

fails : (bytes : List ℕ) (vars : List Declared) (read : Result (List Moment) Fault) (e : ReadError)
    → Fails e (kept_steps read) → dump_of bytes ≡ finish vars read → Fails e (dump_of bytes)
unfolding finish
fails bytes vars read errors.Memory k e = tt
fails bytes vars (Ok ms) (errors.Fault f) k e = absurd cc
fails bytes vars (Err g) (errors.Fault f) k e = e ∙ (let h : g ≡ f = cc in ap (λ (x : Fault). Err x) h)

module _ (bytes : List ℕ) (ss : List Scope) (vs : List Variable) (ts : List DumpToken)
    (read : header [] [] (tokens 0 bytes) ≡ Ok (map (declaration_of ss) vs, ts)) where
  joined : dump_of bytes ≡ finish (map (declaration_of ss) vs) (steps_of (body (codes_in vs) (length bytes) 0 0 ts))
  unfolding finish dump_of contents_behind
  joined = rw (read, codes-texts ss vs) refl

  pub dump-says : (stored : List StoredStep) → kept_steps (steps_of (body (codes_in vs) (length bytes) 0 0 ts))
      ≡ Ok stored → Says bytes (map (declaration_of ss) vs) stored
  dump-says stored k = says bytes (map (declaration_of ss) vs) stored _ k joined

  pub dump-fails : (e : ReadError) → Fails e (kept_steps (steps_of (body (codes_in vs) (length bytes) 0 0 ts)))
      → Fails e (dump_of bytes)
  dump-fails e k = fails bytes (map (declaration_of ss) vs) _ e k joined

pub header-fails : (bytes : List ℕ) (e : ReadError) → Fails e (header [] [] (tokens 0 bytes)) → Fails e (dump_of bytes)
unfolding dump_of
header-fails bytes errors.Memory h = tt
header-fails bytes (errors.Fault f) h = rw h refl
