mod Exits
