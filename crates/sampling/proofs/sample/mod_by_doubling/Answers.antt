-- `mod_by_doubling`: after k doublings the high half's remainder is that of hi * 2 ^ k.
use Rattle.std.proofs.Common.{◌≡◌, ℕ, ◌+◌, ◌*◌, ◌%◌, ◌^◌, ◌<◌, sym, ap, ◌∙◌, subst, mod-lt, mul-one, arith}
use native.Mathlib.Nat.{add-mod}
use Rattle.sampling.proofs.Remainder.{doubled}
use Rattle.sampling.proofs.sample.mod_by_doubling.Goals as goal

pub loop-k-init : goal.loop-k-init
loop-k-init c = let a = c.args in ap (λ (x : ℕ). x % a.n) (sym (mul-one a.i.hi))

under : (c : goal.In-loop-k) → c.loop-k.high < c.args.n
under c =
    let a = c.args in
    subst (λ (x : ℕ). x < a.n) (sym c.loop-k.invariant) (mod-lt (a.i.hi * 2 ^ c.loop-k._k) c.requires)

pub add_mod-high-requires : goal.add_mod-high-requires
add_mod-high-requires c = let r = under c in (r, r)

pub loop-k-preserved : goal.loop-k-preserved
loop-k-preserved c =
    let l = c in
    let a = l.args in
    c.add_mod-high.ensures ∙ ap (λ (x : ℕ). (x + x) % a.n) l.loop-k.invariant ∙ doubled a.i.hi l.loop-k._k a.n

under_2 : (c : goal.After-struct_known-2-1) → c.loop-k.high < c.args.n
under_2 c =
    let a = c.args in
    subst (λ (x : ℕ). x < a.n) (sym c.loop-k.invariant) (mod-lt (a.i.hi * 2 ^ c.loop-k._k) c.requires)

pub add_mod-requires : goal.add_mod-requires
add_mod-requires c = let s = c in (under_2 c, mod-lt s.args.i.lo s.requires)

pub returns : goal.returns
returns c =
    let l = c in
    let a = l.args in
    let all : l.loop-k._k ≡ 64 = omega arith in
    c.add_mod.ensures
    ∙ ap (λ (x : ℕ). (x + a.i.lo % a.n) % a.n) (l.loop-k.invariant ∙ ap (λ (k : ℕ). a.i.hi * 2 ^ k % a.n) all)
    ∙ sym (add-mod (a.i.hi * 2 ^ 64) a.i.lo a.n)
