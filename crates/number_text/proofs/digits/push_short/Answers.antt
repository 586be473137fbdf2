use Rattle.std.proofs.Common.{◌∙◌, ◌++◌, ◌/◌, ◌%◌, ap, sym, arith, append_assoc, List, ℕ}
use Rattle.std.specs.Fmt.{decimal}
use Rattle.itoa.proofs.Decimal.{pair, decimal_four}
use Rattle.number_text.proofs.digits.push_short.Goals as goal

pub returns : goal.returns
returns c =
    let n = c.args.n in
    let old = c.args.text.now.items in
    let high = pair (n % 10000 / 100) in
    let low = pair (n % 10000 % 100) in
    c.put_pair-2.ensures.items
    ∙ ap (λ (front : List ℕ). front ++ low) c.put_pair.ensures.items
    ∙ append_assoc _ high low
    ∙ ap (λ (front : List ℕ). front ++ (high ++ low)) (c.put_four-2.ensures.items ∙ ap (λ (front : List ℕ). front ++ decimal (n / 10000)) c.in_ok-reserve.ensures.items)
    ∙ append_assoc old (decimal (n / 10000)) (high ++ low)
    ∙ ap (λ (digits : List ℕ). old ++ digits) (sym (decimal_four n c.if-n-lt10000.false (omega (arith, c.requires))))
