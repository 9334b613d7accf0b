use Rattle.dv_window_keys.proofs.Vocabulary.{arith, mul-le}
use Rattle.dv_window_keys.proofs.items.product.Goals as goal

pub overflow_mul-product : goal.overflow_mul-product
overflow_mul-product c =
    let a = c.from.ensures in
    let b = c.from-2.ensures in
    let most = mul-le c.from.result c.from-2.result 4294967295 4294967295 (omega (arith, a, c.ranges.a.fits)) (omega (arith, b, c.ranges.b.fits)) in
    omega (arith, most)

pub returns-clause-most : goal.returns-clause-most
returns-clause-most c =
    let a = c.from.ensures in
    let b = c.from-2.ensures in
    let most = mul-le c.from.result c.from-2.result 4294967295 4294967295 (omega (arith, a, c.ranges.a.fits)) (omega (arith, b, c.ranges.b.fits)) in
    omega (arith, most)
