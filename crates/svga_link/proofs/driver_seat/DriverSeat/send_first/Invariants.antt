use Rattle.svga_link.proofs.driver_seat.DriverSeat.send_first.Given as goal

abbrev pub ghosts-send_named : goal.ghosts-send_named
ghosts-send_named a = record { words = a._words.now }
