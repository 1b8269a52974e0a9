use Rattle.std.proofs.Common.{◌≡◌, ◌∙◌, ℕ, length, ap, arith}
use Rattle.std.proofs.lemmas.List.FromFn.{length-range_with_len}
use Rattle.buffer_pool.specs.Stocked.{Stocked, full_stock}
use Rattle.ring_bench.proofs.kit.supply.stock_for.Goals as goal

-- a full stock has as many numbers as it counts
stock_count : (stock : Stocked) (first count : ℕ) → stock ≡ full_stock first count → length stock.numbers ≡ count
stock_count stock first count full = ap (λ (s : Stocked). length s.numbers) full ∙ length-range_with_len first count

pub returns-clause-enough : goal.returns-clause-enough
returns-clause-enough c = let full = stock_count c.in_ok-new.field-0 0 c.max.result c.in_ok-new.ensures.full in omega (arith, full, c.max.ensures)
