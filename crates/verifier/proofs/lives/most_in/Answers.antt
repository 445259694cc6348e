use Rattle.std.proofs.Common.{ap, arith}
use Rattle.std.proofs.lemmas.List.{drop_more}
use Rattle.verifier.specs.Limits.{most_in}
use Rattle.verifier.proofs.lives.most_in.Goals as goal

pub lives-preserved : goal.lives-preserved
lives-preserved c =
    let e = ap (most_in c.args.set c.lives.p) (drop_more c.args.lives.now c.lives.p 0 c.lives-test.true) in
    record {
      left = omega (arith, e, c.lives.invariant.left, c.max-most.ensures, c.life_in.ensures.life);
      few = λ m all. let a =
          c.lives.invariant.few m all in let b = all c.lives.p in
          omega (arith, a, b, c.max-most.ensures, c.life_in.ensures.few);
    }
