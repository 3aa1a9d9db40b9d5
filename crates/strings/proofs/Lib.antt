mod Borrows
