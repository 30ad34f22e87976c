-- `alba_two_products`: refused by the length lent, or the answers of `two_products` in numbers.
use Rattle.harness_exports.proofs.PartyNumbers.{not_six_lent, parties_served_lem}
use Rattle.harness_exports.proofs.alba_two_products.Goals as goal

pub returns-then-out-ne6 : goal.returns-then-out-ne6
returns-then-out-ne6 c =
    let a = c.args in
    not_six_lent _ a.table_retry a.table.now _ a.retry a.places.now _ a.retry2 a.places2.now a.out.now c.if-out-ne6.true

pub returns : goal.returns
returns c =
    let a = c.args in
    let s = c.settings_of-p in
    let t = c.settings_of-p2 in
    parties_served_lem _ a.table_retry a.table.now _ a.retry a.places.now _ a.retry2 a.places2.now a.out.now
    c.if-out-ne6.false s.result t.result s.ensures t.ensures c.two_products.result _ _ _
    c.two_products.ensures c.put_parties.ensures
