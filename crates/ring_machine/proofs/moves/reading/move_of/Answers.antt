use Rattle.std.proofs.Common.{◌≡◌, Some, None, rules, arith}
use Rattle.ring_machine.proofs.text.MoveQueues.{number_of, queue_read, queue_said, receive_exact, transmit_exact}
use Rattle.ring_machine.proofs.moves.reading.move_of.Goals as goal

pub returns-in_default : goal.returns-in_default
returns-in_default c = λ m. (
  λ e. cc,
  λ s.
      let two = (queue_said c.args.queue.now c.args.kind.now c.args.arguments.now m s).two in
      grind (arith, two),
)

pub returns-in_err-number : goal.returns-in_err-number
returns-in_err-number c =
    let none : c.from_residual.result ≡ None = search rules in
    let missing : c.number_of.result ≡ None = search rules in
    λ m. (
      λ e. cc (none),
      λ s.
          let is = queue_said c.args.queue.now c.args.kind.now c.args.arguments.now m s in
          cc (missing, (c.number_of.ensures (number_of m)).1 (is.below, is.digit_is)),
    )

pub returns-in_ok-rx_step-in-114 : goal.returns-in_ok-rx_step-in-114
returns-in_ok-rx_step-in-114 c = let number = c.in_ok-number.number in
    let read : c.number_of.result ≡ Some number = search rules in
    let step : c.rx_step.result ≡ Some c.in_ok-rx_step-in-114.field-0 = search rules in
    receive_exact c.args.queue.now c.args.kind.now c.args.arguments.now number c.in_ok-rx_step-in-114.field-0 (queue_read c.args.queue.now 114 number (omega arith) (omega arith) ((c.number_of.ensures number).0 read)) (rw step at c.rx_step.ensures)

pub returns-in_ok-tx_step-in-116 : goal.returns-in_ok-tx_step-in-116
returns-in_ok-tx_step-in-116 c = let number = c.in_ok-number.number in
    let read : c.number_of.result ≡ Some number = search rules in
    let step : c.tx_step.result ≡ Some c.in_ok-tx_step-in-116.field-0 = search rules in
    transmit_exact c.args.queue.now c.args.kind.now c.args.arguments.now number c.in_ok-tx_step-in-116.field-0 (queue_read c.args.queue.now 116 number (omega arith) (omega arith) ((c.number_of.ensures number).0 read)) (rw step at c.tx_step.ensures)
