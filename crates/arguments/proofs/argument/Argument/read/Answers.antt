use Rattle.std.proofs.Common.{refl, Option, Some, None, List, ℕ, IfSome, Bor}
use Rattle.std.specs.Fn.{FnOnceReturns, FnOnceReturnsAt, Once}
use Rattle.arguments.proofs.argument.Argument.read.Goals as goal

-- What `of` returned of the bytes it returned of some word.
returned :
    {F T : Type 0} (g : Once F (Bor (List ℕ) × Unit {0}) (Option T)) (f : F) (p : Bor (List ℕ)) (r : Option T)
    → FnOnceReturns g f (p, tt) r → IfSome r (λ x. (word : List ℕ) × FnOnceReturnsAt g f word (Some x))
returned g f p None met = tt
returned g f p (Some x) met = (p.now, (p, met, refl))

pub returns-in-Some : goal.returns-in-Some
returns-in-Some g c = rw c.or_wanted.ensures (returned g.F.FnOnce c.args.of c.in-Some.bytes c.of.result c.of.ensures)
